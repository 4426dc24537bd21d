use Rattle.std.proofs.Common.{take}
use Rattle.mcs_merge.specs.Parts.{rows_from}
use Rattle.mcs_team.proofs.rest.tell_from.Given as goal

abbrev pub invariant-loop-row : goal.invariant-loop-row
invariant-loop-row g l = g.S.Collector.holds l.told (rows_from l.from (take l.row-index l.rows))
