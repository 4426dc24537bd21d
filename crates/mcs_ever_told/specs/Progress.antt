-- The progress of a check for all time.
use Rattle.std.specs.Prelude.{◌≡◌, ℕ, Bool, List}
use Rattle.mcs_system.specs.System.{System}

-- the system, the notifications that may lose signals, the last moment up to which a recurrence is
-- searched for, the time of the next turn of all cores; and whether some set has no result yet
pub record Progress : Type 0 where
  pub system : System
  pub allowed : List Bool
  pub horizon : ℕ
  pub clock : ℕ
  pub left : Bool

-- the system, the horizon and the notifications that may lose signals are kept
pub record IsOfSame (old new : Progress) : Type 0 where
  pub system : new.system ≡ old.system
  pub allowed : new.allowed ≡ old.allowed
  pub horizon : new.horizon ≡ old.horizon

-- the check before its first moment
pub record IsOpening (system : System) (allowed : List Bool) (horizon : ℕ) (new : Progress) : Type 0 where
  pub of_system : new.system ≡ system
  pub may_lose : new.allowed ≡ allowed
  pub up_to : new.horizon ≡ horizon
  pub starts : new.clock ≡ 0
