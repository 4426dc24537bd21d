-- The reported findings of rows, each by the rows before it.
use Rattle.std.specs.Prelude.{ℕ, Bool, List, [], ◌∷◌, ◌++◌}
use Rattle.mcs_ticks.specs.declared.row.Row.{Row}
use Rattle.mcs_system.specs.System.{System}
use Rattle.mcs_core.specs.Clock.{clock}
use Rattle.mcs_verdict.specs.declared.finding.Found.{Found}
use Rattle.mcs_verdict.specs.Findings.{finding, found_at, past_of}
use Rattle.mcs_check_lines.specs.declared.counts.Counts.{Counts}
use Rattle.mcs_check_lines.specs.Counts.{no_counts, told_of}
use Rattle.mcs_check.specs.stored.Rows.{counted_at}

-- the rows before time t, the latest first
abbrev pub before_of : System → ℕ → List Row
before_of system t = past_of [] (clock system t).rows

module _ (system : System) (allowed : List Bool) where
  -- the counts of the rows so far, the latest first
  abbrev pub counts_so_far : List Row → Counts
  counts_so_far [] = no_counts
  counts_so_far (r ∷ past) = counted_at system allowed past r (counts_so_far past)

  -- the reported finding of a row that comes after these, if it has one
  abbrev pub told_by : List Row → Row → List Found
  told_by past r = found_at r.moment r.core (told_of allowed (finding system past r.moment r.what))

  -- the reported findings of these rows, each by the rows before it
  abbrev pub told_in : List Row → List Row → List Found
  told_in past [] = []
  told_in past (r ∷ rows) = told_by past r ++ told_in (r ∷ past) rows
