-- When the running thread ends its item or exhausts its head, or has to give way, if its core has
-- no other event.
use Rattle.std.specs.Prelude.{◌≡◌, ℕ, ◌^◌, ◌<◌, ◌≤◌, true, length, nat_lt, if◌then◌else◌, Option, Some, None, IfSome}
use Rattle.mcs_ticks.specs.Queue.{first_of}
use Rattle.mcs_ticks.specs.declared.queue.Queued.{Queued}
use Rattle.mcs_control.specs.Context.{head_amount}
use Rattle.mcs_core.specs.declared.standing.Chosen.{Chosen}
use Rattle.mcs_core.specs.declared.standing.Standing.TheVariants.{Running}
use Rattle.mcs_core.specs.Busy.{IsFirst, IsBest, GoesOnAfter}
use Rattle.mcs_core.specs.Core.{Core, stands}
use Rattle.mcs_core.specs.Turn.{its_context, with_chosen_context}
use Rattle.mcs_core.specs.stored.Sound.{has_context}
use Rattle.mcs_system.specs.System.{System, thread_part}

module _ (system : System) where
  -- a thread of the core that has not exhausted the head of its context
  pub record IsUnspent (core : Core) (chosen : Chosen) : Type 0 where
    pub known : chosen.thread < length core.threads
    pub part : chosen.thread < length system.threads
    pub has : has_context (thread_part system chosen.thread).context core ≡ true
    pub unspent : chosen.using < head_amount (its_context system chosen.thread core)
    pub short : head_amount (its_context system chosen.thread core) ≤ 2 ^ 40

  -- no ready thread has to run instead of the running one, if there is one
  abbrev pub HoldsOn : Core → Type 0
  HoldsOn core = IfSome core.running (λ chosen. IsBest core (Some chosen) (first_of core.ready))

  -- the first moment from `from` on at which the running thread ends its item or exhausts its head,
  -- or a ready thread has to run
  abbrev pub IsEnd : ℕ → Core → Option ℕ → Type 0
  IsEnd from core ends =
      IsFirst from (λ n. GoesOnAfter system n core.running core × IsBest core core.running (first_of core.ready)) ends

  -- a thread that is chosen at moment t runs
  abbrev pub started : ℕ → ℕ → Core → Core
  started t thread core =
      let core = stands thread Running (with_chosen_context system t thread core) in
      record core { running = Some (record { thread = thread; using = 0 }) }

-- this moment, if the first ready thread has a priority above this one
abbrev pub better : ℕ → ℕ → Option Queued → Option ℕ
better priority moment None = None
better priority moment (Some best) = if nat_lt priority best.priority then Some moment else None
