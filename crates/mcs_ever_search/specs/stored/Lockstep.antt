-- The invariant of `Lockstep` between its calls: all cores have taken their turns before one moment,
-- and none a later one.
use Rattle.std.specs.Prelude.{◌≡◌, ◌+◌, ◌≤◌, ◌^◌, true, false, ℕ}
use Rattle.std.specs.Arc.{arc_value}
use Rattle.mcs_system.specs.System.{System}
use Rattle.mcs_system.specs.WellFormed.{IsWellFormed}
use Rattle.mcs_step.specs.Steps.{Steps}
use Rattle.mcs_ever_search.specs.Together.{Together, clocks_at}
use Rattle.mcs_ever_search.specs.declared.lockstep.Lockstep.TheInside.{Inside}

abbrev pub together_of : Inside → Together
together_of a =
    record {
      system = arc_value a.system;
      horizon = a.horizon;
      clock = a.clock;
      settled = a.settled;
      failed = a.failed;
    }

-- no turn at the moment was taken, and memory has not run out
pub record IsBefore (steps : Steps) : Type 0 where
  pub core_is : steps.core ≡ 0
  pub going : steps.failed ≡ false

-- the turns of the moment were taken
pub record HaveTurned (before after : Steps) : Type 0 where
  pub system_is : after.system ≡ before.system
  pub horizon_is : after.horizon ≡ before.horizon
  pub moment_is : after.moment ≡ before.moment + 1
  pub is_before : IsBefore after

-- the cores of a system before their turns at moment t
pub record AreBefore (system : System) (horizon t : ℕ) (steps : Steps) : Type 0 where
  pub system_is : steps.system ≡ system
  pub horizon_is : steps.horizon ≡ horizon
  pub moment_is : steps.moment ≡ t
  pub is_before : IsBefore steps

pub record IsKept (a : Inside) : Type 0 where
  pub horizon : a.horizon ≤ 2 ^ 40
  pub in_time : a.clock ≤ a.horizon + 1
  pub well_formed : IsWellFormed (arc_value a.system)
  pub together : a.failed ≡ false → AreBefore (arc_value a.system) a.horizon a.clock a.steps
  pub lagging : a.failed ≡ true → a.settled ≡ false
  pub settled : a.failed ≡ false → a.settled ≡ true → a.steps.clocks ≡ clocks_at (arc_value a.system) a.clock
