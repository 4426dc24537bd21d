use Rattle.std.proofs.Common.{◌≡◌, None, take}
use Rattle.std.specs.Prelude.{fold}
use Rattle.mcs_way.specs.Course.{with_arrived}
use Rattle.mcs_way.proofs.sent.landed.Given as goal

abbrev pub invariant-loop-sent : goal.invariant-loop-sent
invariant-loop-sent l = l.all ≡ fold (with_arrived l.note l.maker l.made l.row.core l.row.moment) None (take l.sent-index l.under_way)
