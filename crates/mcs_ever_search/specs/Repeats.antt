-- Recurrences of groups of cores.
use Rattle.std.specs.Prelude.{◌≡◌, ℕ, ◌+◌, ◌<◌, ◌≤◌, Bool, List, [], length, get_or, Option, None, IfSome}
use Rattle.mcs_system.specs.System.{System}
use Rattle.mcs_ever.specs.Recurs.{IsClosed, Recurs}
use Rattle.mcs_ever.specs.Closed.{has}
use Rattle.mcs_ever_again.specs.Told.{shifts_told}
use Rattle.mcs_ever_search.specs.declared.repeats.Repeats.{Repeats}

-- the group recurs from that moment on, and its first period ends at most one moment past the
-- horizon
pub record IsRepetition (system : System) (horizon : ℕ) (group : List Bool) (repeats : Repeats) : Type 0 where
  pub recurs : Recurs system (has group) (shifts_told repeats.shifts.by repeats.shifts.lags.items) repeats.from
  pub in_time : repeats.from + repeats.shifts.by ≤ horizon + 1

-- a recurrence that is returned is true, if no core outside the group signals one in it
abbrev pub IsToldOf : System → ℕ → List Bool → Option Repeats → Type 0
IsToldOf system horizon group told = IsClosed system (has group) → IfSome told (λ repeats. IsRepetition system horizon group repeats)

-- each group has a true recurrence, or none was returned
pub record AreTold (system : System) (horizon : ℕ) (groups : List (List Bool)) (told : List (Option Repeats)) : Type 0 where
  pub many : length told ≡ length groups
  pub each : (i : ℕ) → i < length groups → IsToldOf system horizon (get_or groups i []) (get_or told i None)
