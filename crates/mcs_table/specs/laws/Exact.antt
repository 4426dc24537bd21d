-- Figures of a run count each round exactly.
use Rattle.std.specs.Prelude.{ℕ, ◌≡◌, ◌^◌, ◌<◌, List, length}
use Rattle.mcs_ticks.specs.declared.row.Row.{Row}
use Rattle.mcs_system.specs.System.{System, thread_part}
use Rattle.mcs_histogram.specs.Histogram.{told_percentile}
use Rattle.mcs_verdict.specs.Findings.{UpTo}
use Rattle.mcs_table.specs.declared.figures.Rounds.{Rounds}
use Rattle.mcs_table.specs.Rounds.{responses_of, greatest, missed_in, late_in, rounds_in}

-- a thread's rounds, with no limit on counts and responses
abbrev pub exact_rounds : System → ℕ → List Row → Rounds
exact_rounds system thread past =
    let deadline = (thread_part system thread).deadline in
    let responses = responses_of system thread past in
    record {
      ended = length responses;
      greatest = greatest responses;
      fiftieth = told_percentile 50 responses;
      ninetieth = told_percentile 90 responses;
      ninety_ninth = told_percentile 99 responses;
      missed = missed_in deadline responses;
      late = late_in deadline thread past;
    }

-- this holds for fewer than 2^64 rows up to the horizon
abbrev pub RoundsAreExact : Type 0
RoundsAreExact =
    (system : System) (horizon thread : ℕ) (past : List Row) → UpTo horizon past → length past < 2 ^ 64
    → rounds_in system horizon thread past ≡ exact_rounds system thread past
