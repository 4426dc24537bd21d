-- The first moment at which a property fails, and the causes of a busy moment: the end of an item
-- or of a head, a better thread, a date, an order, an arrival.
use Rattle.std.specs.Prelude.{◌≡◌, ◌≢◌, ℕ, ◌+◌, ◌<◌, ◌≤◌, ◌^◌, false, nat_lt, Option, Some, None, List, [], ◌∷◌}
use Rattle.mcs_ticks.specs.declared.queue.Queued.{Queued}
use Rattle.mcs_control.specs.declared.config.Order.{Order}
use Rattle.mcs_control.specs.Context.{head_amount}
use Rattle.mcs_system.specs.System.{System}
use Rattle.mcs_core.specs.declared.standing.Chosen.{Chosen}
use Rattle.mcs_core.specs.Core.{Core, thread_of, with_thread}
use Rattle.mcs_script.specs.Script.{left_after}
use Rattle.mcs_core.specs.Turn.{its_context}

-- the first moment from the clock on at which P fails; `None` if it holds at all moments up to 2^42
abbrev pub IsFirst : ℕ → (ℕ → Type 0) → Option ℕ → Type 0
IsFirst clock P (Some moment) =
    (n : ℕ)
    × (moment ≡ clock + n)
    × (moment ≤ 2 ^ 42)
    × ((m : ℕ) → m < n → P m)
    × (¬ P n)
IsFirst clock P None = (n : ℕ) → clock + n ≤ 2 ^ 42 → P n

-- the moment of the first order
abbrev pub first_moment : List Order → Option ℕ
first_moment [] = None
first_moment (order ∷ orders) = Some order.moment

-- this thread, which runs, used n ticks
abbrev pub counted_by : ℕ → Chosen → Core → Core
counted_by n chosen core =
    let state = thread_of core chosen.thread in
    with_thread chosen.thread (record state { place = record (state.place) { left = left_after n state.place.left } })
    (record core { running = Some (record { thread = chosen.thread; using = chosen.using + n }) })

abbrev pub counted_for : ℕ → Option Chosen → Core → Core
counted_for n None core = core
counted_for n (Some chosen) core = counted_by n chosen core

-- no ready thread has to run instead of the running one
abbrev pub IsBest : Core → Option Chosen → Option Queued → Type 0
IsBest core (Some chosen) (Some best) = nat_lt (thread_of core chosen.thread).place.priority best.priority ≡ false
IsBest core (Some chosen) None = Unit {0}
IsBest core None (Some best) = ⊥
IsBest core None None = Unit {0}

module _ (system : System) where
  -- after n ticks, the running thread neither ends its item nor exhausts its head with one more
  abbrev pub GoesOnAfter : ℕ → Option Chosen → Core → Type 0
  GoesOnAfter n None core = Unit {0}
  GoesOnAfter n (Some chosen) core =
      (1 < left_after n (thread_of core chosen.thread).place.left)
      × (chosen.using + n + 1 ≢ head_amount (its_context system chosen.thread core))
