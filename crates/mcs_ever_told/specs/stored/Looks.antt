-- Facts that a search at one moment shows about a set of cores.
use Rattle.std.specs.Prelude.{◌≡◌, ℕ, ◌+◌, ◌<◌, Bool, true, false, List, length, get_or, Option, None, IfSome}
use Rattle.std.specs.List.{AllByRecursion}
use Rattle.mcs_system.specs.System.{System}
use Rattle.mcs_ever.specs.Recurs.{Shifts, IsClosed}
use Rattle.mcs_ever.specs.Closed.{has}
use Rattle.mcs_ever_found.specs.Recurs.{FindingsRecur}
use Rattle.mcs_ever_search.specs.Compared.{Compared}
use Rattle.mcs_ever_told.specs.Outlook.{AreSettled, HoldsForEver, period_lines, IsTold}
use Rattle.mcs_ever_told.specs.declared.outlook.sets.Group.{Group}
use Rattle.mcs_ever_told.specs.declared.outlook.told.Period.{Period}
use Rattle.mcs_ever_told.specs.declared.outlook.told.Told.{Told}

-- the time since the kept moment, as a period
abbrev pub period_of : Compared → ℕ → Period
period_of search by = record { from = search.kept; ticks = by }

module _ (system : System) where
  -- a search of the system in which memory has not run out
  pub record IsLook (search : Compared) : Type 0 where
    pub same : search.system ≡ system
    pub going : search.failed ≡ false

  -- the set recurs since the kept moment, in its findings, too
  pub record HasRecurred (search : Compared) (set : List Bool) (by : ℕ) : Type 0 where
    pub shifts : Shifts
    pub by_is : shifts.by ≡ by
    pub recurs : FindingsRecur system (has set) shifts search.kept
    pub period : search.kept + by ≡ search.clock

  -- the set has recurred; what its lines leave out is settled, and each of them holds for ever
  pub record CanBeTold (search : Compared) (allowed : List Bool) (group : Group) (by : ℕ) : Type 0 where
    pub recurred : HasRecurred search group.set by
    pub settled : AreSettled system allowed group.own (period_of search by)
    pub lines_hold : (horizon : ℕ) →
        AllByRecursion (HoldsForEver system allowed group.own (period_of search by))
        (period_lines system allowed horizon group.set group.own (period_of search by))

  -- the set is closed: no core outside it signals one in it. The cores that are reported with it
  -- are some of its own
  pub record IsClosedGroup (group : Group) : Type 0 where
    pub closed : IsClosed system (has group.set)
    pub within : (core : ℕ) → has group.own core ≡ true → has group.set core ≡ true

  abbrev pub AreClosed : List Group → Type 0
  AreClosed groups = (i : ℕ) (d : Group) → i < length groups → IsClosedGroup (get_or groups i d)

  module _ (allowed : List Bool) (horizon : ℕ) (groups : List Group) where
    -- each result so far is true
    abbrev pub AreToldSoFar : List (Option Told) → Type 0
    AreToldSoFar told =
        (i : ℕ) (d : Group) → i < length groups →
        IfSome (get_or told i None) (IsTold system allowed horizon (get_or groups i d).set (get_or groups i d).own)

    -- the first sets have true results
    pub record AreToldBelow (below : ℕ) (all : List Told) : Type 0 where
      pub many : length all ≡ below
      pub each : (d : Group) (e : Told) (i : ℕ) → i < below →
          IsTold system allowed horizon (get_or groups i d).set (get_or groups i d).own (get_or all i e)
