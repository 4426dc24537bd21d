-- The states of threads by rows are those of the clock.
use Rattle.std.specs.Prelude.{◌≡◌, ℕ, ◌<◌, ◌≤◌, [], length}
use Rattle.mcs_system.specs.System.{System}
use Rattle.mcs_system.specs.WellFormed.{IsWellFormed}
use Rattle.mcs_core.specs.Clock.{schedule}
use Rattle.mcs_verdict.specs.Findings.{past_of}
use Rattle.mcs_verdict.specs.Standing.{standing_at, telling}
use Rattle.mcs_verdict_laws.specs.Standing.{standing_in_clock}

-- in each tick up to the horizon the state of each thread is that of the schedule's rows
abbrev pub StandingsAreTheClocks : Type 0
StandingsAreTheClocks =
    (system : System) → IsWellFormed system → (horizon tick thread : ℕ) → tick ≤ horizon → thread < length system.threads →
    standing_at tick (telling thread (past_of [] (schedule system horizon))) ≡ standing_in_clock system tick thread
