-- The conditions of an item on its core.
use Rattle.std.specs.Prelude.{◌≡◌, ℕ, ◌<◌, length, Option, Some, None}
use Rattle.mcs_script.specs.declared.item.Item.{Item}
use Rattle.mcs_script.specs.declared.item.Item.TheVariants.{Compute, Signal, Wait, Yield, On, Spin, Enter, Leave}
use Rattle.mcs_ticks.specs.Queue.{by_priority}
use Rattle.mcs_system.specs.System.{System}
use Rattle.mcs_core.specs.Core.{Core}
use Rattle.mcs_core.specs.Turn.{signals, frees}
use Rattle.mcs_core.specs.stored.Sound.{IsPlaced, IsFree, WakesFree}
use Rattle.mcs_core.specs.Places.{times_waiting}

-- its notification is one of these
abbrev pub IsNoted : ℕ → Option Item → Type 0
IsNoted notes (Some (Signal note badge)) = note < notes
IsNoted notes (Some (Wait note)) = note < notes
IsNoted notes (Some (Compute ticks)) = Unit {0}
IsNoted notes (Some Yield) = Unit {0}
IsNoted notes (Some (On badges)) = Unit {0}
IsNoted notes (Some Spin) = Unit {0}
IsNoted notes (Some (Enter server priority)) = server < notes
IsNoted notes (Some (Leave server priority)) = server < notes
IsNoted notes None = Unit {0}

module _ (system : System) (c t x : ℕ) where
  -- a thread that a signal wakes is free, and this thread still has a place in its script after it
  abbrev pub SignalsFree : Option Item → Core → Type 0
  SignalsFree (Some (Signal note badge)) core =
      WakesFree system note badge core
      × (x < length (signals by_priority system c t x note badge core).core.threads)
      × IsPlaced system x (signals by_priority system c t x note badge core).core
  SignalsFree (Some (Wait note)) core = Unit {0}
  SignalsFree (Some (Compute ticks)) core = Unit {0}
  SignalsFree (Some Yield) core = Unit {0}
  SignalsFree (Some (On badges)) core = Unit {0}
  SignalsFree (Some Spin) core = Unit {0}
  SignalsFree (Some (Enter server priority)) core = Unit {0}
  SignalsFree (Some (Leave server priority)) core =
      WakesFree system server 1 core
      × (x < length (frees by_priority system t x server core).core.threads)
      × IsPlaced system x (frees by_priority system t x server core).core
  SignalsFree None core = Unit {0}

  -- the thread's item may take effect
  pub record CanTakeEffect (item : Option Item) (core : Core) : Type 0 where
    pub free : IsFree system x core
    pub not_waiting : times_waiting x core.notes ≡ 0
    pub noted : IsNoted (length core.notes) item
    pub part : IsNoted (length system.notes) item
    pub signals_free : SignalsFree item core
