-- The rows of a schedule between two moments are those of the turns of these moments.
use Rattle.std.specs.Prelude.{◌≡◌, ℕ, ◌≤◌, List, ◌++◌, map}
use Rattle.mcs_ticks.specs.declared.row.Row.{Row}
use Rattle.mcs_ticks.specs.declared.row.What.{What}
use Rattle.mcs_system.specs.System.{System}
use Rattle.mcs_core.specs.Clock.{clock}
use Rattle.mcs_ever_again.specs.Period.{told_between}

-- the rows without their times and cores
abbrev pub whats : List Row → List What
whats rows = map (λ (row : Row). row.what) rows

abbrev pub RowsTellTurns : System → Type 0
RowsTellTurns system =
    (from past : ℕ) (rows : List Row) → from ≤ past → (clock system past).rows ≡ (clock system from).rows ++ rows →
    whats rows ≡ told_between system from past
