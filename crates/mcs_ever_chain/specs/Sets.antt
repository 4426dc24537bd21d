-- The sets of cores that recur.
use Rattle.std.specs.Prelude.{◌≡◌, ℕ, Bool, List, Option, Some, None}
use Rattle.std.specs.List.{AllByRecursion}
use Rattle.mcs_system.specs.System.{System}
use Rattle.mcs_ever.specs.Closed.{has}
use Rattle.mcs_ever.specs.Recurs.{Shifts, Recurs}
use Rattle.mcs_ever_told.specs.declared.outlook.told.Period.{Period}
use Rattle.mcs_ever_told.specs.declared.outlook.told.Told.{Told}
use Rattle.mcs_ever_told.specs.Outlook.{AreTold}

-- the set recurs with this period
pub record SetRecurs (system : System) (set : List Bool) (p : Period) : Type 0 where
  pub shifts : Shifts
  pub by : shifts.by ≡ p.ticks
  pub recurs : Recurs system (has set) shifts p.from

abbrev pub PeriodIsSo : System → List Bool → Option Period → Type 0
PeriodIsSo system set (Some p) = SetRecurs system set p
PeriodIsSo system set None = Unit {0}

-- each set recurs as it is told, if it is told to
abbrev pub SetsRecur : System → List Told → Type 0
SetsRecur system told = AllByRecursion (λ (one : Told). PeriodIsSo system one.set one.period) told

-- so do the sets that a check for all time tells
abbrev pub ToldSetsRecur : Type 0
ToldSetsRecur =
    (system : System) (allowed : List Bool) (horizon : ℕ) (told : List Told) → AreTold system allowed horizon told → SetsRecur system told
