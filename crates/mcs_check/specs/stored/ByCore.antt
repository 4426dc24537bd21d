-- The findings of each core in its rows, and those of all cores together.
use Rattle.std.specs.Prelude.{ℕ, Bool, List, [], flat_map, fold}
use Rattle.std.specs.List.{range_with_len}
use Rattle.mcs_ticks.specs.declared.row.Row.{Row}
use Rattle.mcs_system.specs.System.{System}
use Rattle.mcs_stretch.specs.Stretch.{rows_between}
use Rattle.mcs_verdict.specs.declared.finding.Found.{Found}
use Rattle.mcs_verdict.specs.Findings.{past_of}
use Rattle.mcs_check_lines.specs.declared.counts.Counts.{Counts}
use Rattle.mcs_check_lines.specs.Counts.{no_counts, together}
use Rattle.mcs_check.specs.stored.Found.{counts_so_far, told_in}

-- the rows of core c before time t, the latest first
abbrev pub before_on : System → ℕ → ℕ → List Row
before_on system c t = past_of [] (rows_between system c 0 t)

module _ (system : System) (allowed : List Bool) where
  -- the reported findings of core c in its rows from one time to before another
  abbrev pub told_on : ℕ → ℕ → ℕ → List Found
  told_on c from to = told_in system allowed (before_on system c from) (rows_between system c from to)

  -- the reported findings of all cores, one core after another
  abbrev pub told_on_all : ℕ → ℕ → List Found
  told_on_all from to = flat_map (λ c. told_on c from to) (range_with_len 0 system.cores)

  -- the counts of core c before time t
  abbrev pub counts_on : ℕ → ℕ → Counts
  counts_on c t = counts_so_far system allowed (before_on system c t)

  -- the counts of all cores
  abbrev pub counts_on_all : ℕ → Counts
  counts_on_all t = fold (λ counts c. together counts (counts_on c t)) no_counts (range_with_len 0 system.cores)
