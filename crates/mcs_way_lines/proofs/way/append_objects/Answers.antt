use Rattle.std.proofs.Common.{rules, ◌<◌, length}
use Rattle.mcs_way_lines.specs.Lines.{leg_object}
use Rattle.mcs_way_lines.proofs.Behind.{one-behind}
use Rattle.mcs_way_lines.proofs.way.append_objects.Goals as goal

pub loop-leg-preserved : goal.loop-leg-preserved
loop-leg-preserved c =
    let has : c.loop-leg.leg-index < length c.args.way.now = search rules in
    one-behind (leg_object c.args.system.now) c.args.way.now c.loop-leg.leg-index _ _ _ _ has c.leg-item.is c.in_ok-put_leg_object.ensures c.loop-leg.invariant
