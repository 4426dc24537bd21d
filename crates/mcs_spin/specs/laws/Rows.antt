-- The rows of a system and of its spun one.
use Rattle.std.specs.Prelude.{◌≡◌, ℕ, filter}
use Rattle.mcs_system.specs.System.{System}
use Rattle.mcs_system.specs.WellFormed.{IsWellFormed}
use Rattle.mcs_core.specs.Clock.{schedule}
use Rattle.mcs_spin.specs.Spun.{spun, stays}

abbrev pub SpunAreWellFormed : Type 0
SpunAreWellFormed = (system : System) → IsWellFormed system → IsWellFormed (spun system)

-- up to each horizon all rows are the same, but for the ends of rounds of threads that only compute
abbrev pub RowsAreSpun : Type 0
RowsAreSpun =
    (system : System) → IsWellFormed system → (horizon : ℕ) → filter (stays system) (schedule system horizon) ≡ schedule (spun system) horizon
