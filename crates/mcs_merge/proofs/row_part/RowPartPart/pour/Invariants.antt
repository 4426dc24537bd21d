use Rattle.std.proofs.Common.{length}
use Rattle.mcs_merge.proofs.Rows.{AreGiving}
use Rattle.mcs_merge.proofs.row_part.RowPartPart.pour.Given as goal

abbrev pub invariant-rows : goal.invariant-rows
invariant-rows g l = AreGiving g.S.Sink.takes l.moment l.initial.self-inside.rows.items l.self-inside.rows.items l.initial.out l.out

abbrev pub decreases-rows : goal.decreases-rows
decreases-rows g l = length l.self-inside.rows.items
