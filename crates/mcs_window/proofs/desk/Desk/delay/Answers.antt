use Rattle.std.proofs.Common.{◌≡◌, rules, arith}
use Rattle.std.specs.Prelude.{slice_index}
use Rattle.std.specs.Arc.{arc_value}
use Rattle.mcs_system.specs.System.{delay_between}
use Rattle.mcs_system.proofs.Linked.{delays_within}
use Rattle.mcs_window.proofs.desk.Desk.delay.Goals as goal

pub returns-clause-short : goal.returns-clause-short
returns-clause-short g c =
    let system = arc_value c.self.inside.system in
    let value : slice_index c.index.result.now c.maker.inside.0 ≡ delay_between system c.maker.inside.0 c.home.inside.0 = search rules in
    let short = (delays_within system c.self.invariant.well_formed c.maker.inside.0 c.home.inside.0).1 in
    omega (arith, value, short)
