use Rattle.mcs_team.proofs.Waking.{passed-at}
use Rattle.mcs_team.proofs.shared_desk.SharedDesk.catch_up.Goals as goal

pub pass-requires-clause-in_order : goal.pass-requires-clause-in_order
pass-requires-clause-in_order g c =
    let r = c.loop-number in
    (passed-at g.B.Run.system c.args.before.now c.args.self.now.desk r.self.desk r.number c.min-number-end.result c.cores.result c.clock-past.result c.index-before-number.result
    r.invariant c.type_inv.before c.requires c.cores.ensures c.min-number-end.ensures c.loop-number-test.true c.clock-past.ensures.value).0

pub pass-requires-clause-silent : goal.pass-requires-clause-silent
pass-requires-clause-silent g c =
    let r = c.loop-number in
    (passed-at g.B.Run.system c.args.before.now c.args.self.now.desk r.self.desk r.number c.min-number-end.result c.cores.result c.clock-past.result c.index-before-number.result
    r.invariant c.type_inv.before c.requires c.cores.ensures c.min-number-end.ensures c.loop-number-test.true c.clock-past.ensures.value).1
