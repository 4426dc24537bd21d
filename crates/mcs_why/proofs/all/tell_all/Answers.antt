use Rattle.std.proofs.Common.{◌+◌, drop, refl}
use Rattle.std.proofs.lemmas.List.{drop_all}
use Rattle.mcs_verdict.proofs.Lists.{next-row}
use Rattle.mcs_why.proofs.Rows.{tells-row, tells-all}
use Rattle.mcs_why.proofs.all.tell_all.Goals as goal

pub loop-row-init : goal.loop-row-init
loop-row-init c threads core from to past kept order = record { seen = past; kept = kept; in_order = order; past_is = refl }

pub loop-row-preserved : goal.loop-row-preserved
loop-row-preserved c threads core from to past kept order =
    tells-row threads core from to past c.args.rows.now (drop c.loop-row.row-index c.args.rows.now)
    (drop (c.loop-row.row-index + 1) c.args.rows.now) c.row-item.result c.loop-row.account c.see-shown.new.self
    (next-row c.args.rows.now c.loop-row.row-index c.row-item.result c.loop-row-test.true c.row-item.is)
    (c.loop-row.invariant threads core from to past kept order)
    (c.see-shown.ensures.kept threads core from to)

pub returns : goal.returns
returns c threads core from to past kept order =
    tells-all threads core from to past c.args.rows.now (drop c.loop-row.row-index c.args.rows.now) c.loop-row.account
    (drop_all c.loop-row.row-index c.args.rows.now c.loop-row-test.false)
    (c.loop-row.invariant threads core from to past kept order)
