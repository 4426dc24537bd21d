-- Counts of rows, made by each core for its own.
use Rattle.std.specs.Prelude.{ℕ, ◌+◌, ◌%◌, ◌^◌, fold, List, replicate}
use Rattle.mcs_ticks.specs.declared.row.Row.{Row}
use Rattle.mcs_report.specs.CoreTally.{CoreTally}
use Rattle.mcs_report.specs.laws.CoreTallies.{AreOfCores}
use Rattle.mcs_system.specs.System.{System}

-- each core has its tally, which has counted all its rows up to the horizon
abbrev pub AreWhole : System → ℕ → List CoreTally → Type 0
AreWhole system horizon tallies = AreOfCores system horizon (replicate system.cores (horizon + 1)) tallies

-- the next number, in 64 bits
abbrev pub one_more : ℕ → ℕ
one_more n = (n + 1) % 2 ^ 64

-- the number of rows, in 64 bits
abbrev pub many_of : List Row → ℕ
many_of rows = fold (λ n _. one_more n) 0 rows
