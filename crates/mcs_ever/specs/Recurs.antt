-- A group of cores recurs: no core outside it signals one in it, and before some moment its state
-- is that of a number of ticks earlier, but later.
use Rattle.std.specs.Prelude.{◌≡◌, ℕ, ◌+◌, ◌<◌, ◌≤◌, Bool, true, map, filter, length, Some}
use Rattle.std.specs.List.{AllByRecursion, slice_get}
use Rattle.mcs_control.specs.declared.config.Order.{Order}
use Rattle.mcs_script.specs.declared.item.Item.TheVariants.{Signal}
use Rattle.mcs_mail.specs.declared.mail.Mail.{Mail}
use Rattle.mcs_system.specs.System.{System, thread_part, note_part, core_of}
use Rattle.mcs_core.specs.Alarms.{alarms_at}
use Rattle.mcs_core.specs.Clock.{World, core_shown, world, turn_of}
use Rattle.mcs_ever.specs.Later.{Shift, later_core, later_mail, later_alarm, IsShift, KeepsUp}

-- how much later each core of a group is; all their releases and signals by the same
pub record Shifts : Type 0 where
  pub by : ℕ
  pub contexts : ℕ → ℕ → ℕ
  pub threads : ℕ → ℕ → ℕ
  pub rounds : ℕ → ℕ → ℕ

abbrev pub shift_of : Shifts → ℕ → Shift
shift_of shifts core =
    record {
      by = shifts.by;
      contexts = shifts.contexts core;
      threads = shifts.threads core;
      rounds = shifts.rounds core;
    }

module _ (system : System) (group : ℕ → Bool) where
  -- each thread with an item that signals a core of the group is on one of them
  abbrev pub IsClosed : Type 0
  IsClosed =
      (thread place note badge : ℕ) → thread < length system.threads →
      slice_get (thread_part system thread).script place ≡ Some (Signal note badge) →
      group (note_part system note).core ≡ true → group (core_of system (thread_part system thread)) ≡ true

  -- whether the signal is for a core of the group
  abbrev pub is_for : Mail → Bool
  is_for mail = group (note_part system mail.note).core

  module _ (shifts : Shifts) where
    -- in one world the group is as in the other, but later. Its cores are compared as their states
    -- show them, with the ready threads by priority: the order in which threads of different
    -- priorities became ready does not matter
    pub record IsLater (before after : World) : Type 0 where
      pub cores : (c : ℕ) → c < system.cores → group c ≡ true → core_shown system after c
          ≡ later_core (shift_of shifts c) (core_shown system before c)
      pub mails : filter is_for after.mails ≡ map (later_mail shifts.by) (filter is_for before.mails)

    -- the group is before moment `from` + `by` as before `from`, but later, and no order comes from
    -- then on. Each source of its cores has its next date later and as many dates left, so it has
    -- no last date, or no date to come. The dates that its cores compare with now in the turns
    -- between have not lagged
    pub record Recurs (from : ℕ) : Type 0 where
      pub closed : IsClosed
      pub some : 1 ≤ shifts.by
      pub shift : (c : ℕ) → IsShift system (shift_of shifts c)
      pub orders : AllByRecursion (λ (order : Order). order.moment < from) system.orders
      pub again : IsLater (world system from) (world system (from + shifts.by))
      pub alarms : (c : ℕ) → c < system.cores → group c ≡ true → alarms_at system c (from + shifts.by)
          ≡ map (later_alarm shifts.by) (alarms_at system c from)
      pub rows : (t c : ℕ) → from ≤ t → t < from + shifts.by → c < system.cores → group c ≡ true →
          AllByRecursion (KeepsUp system (shift_of shifts c)) (turn_of system c t).rows
