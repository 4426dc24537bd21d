use Rattle.std.proofs.Common.{◌≡◌, ℕ, ◌<◌, ◌≤◌, length, vec_capacity}
use Rattle.std.specs.Prelude.{slice_index_or}
use Rattle.mcs_report.specs.CoreTally.{HoldsRows}
use Rattle.mcs_stretch.specs.Stretch.{rows_between}
use Rattle.mcs_window.specs.Desk.{clock_of}
use Rattle.mcs_team.specs.Counts.{many_of}
use Rattle.mcs_team.proofs.own_tally.counted.Given as goal

abbrev pub invariant-loop-number : goal.invariant-loop-number
invariant-loop-number g l =
    (length l.told.items ≡ l.number) × (l.number-end ≤ vec_capacity l.told)
    × ((c : ℕ) (own : _) → c < l.number → HoldsRows (slice_index_or l.told.items c own).tally (rows_between g.B.Run.system c 0 (clock_of l.desk c))
    × ((slice_index_or l.told.items c own).rows ≡ many_of (rows_between g.B.Run.system c 0 (clock_of l.desk c))))
