use Rattle.std.proofs.Common.{◌+◌, drop, refl}
use Rattle.std.proofs.lemmas.List.{drop_all}
use Rattle.mcs_verdict.proofs.Lists.{next-row}
use Rattle.mcs_table.proofs.Rows.{follows-row, follows-all}
use Rattle.mcs_table.proofs.all.see_all.Goals as goal

pub loop-row-init : goal.loop-row-init
loop-row-init c system horizon past watched kept order =
    record { seen = past; watched = watched; kept = kept; in_order = order; past_is = refl }

pub loop-row-preserved : goal.loop-row-preserved
loop-row-preserved c system horizon past watched kept order =
    follows-row system horizon past c.args.rows.now (drop c.loop-row.row-index c.args.rows.now) (drop (c.loop-row.row-index + 1) c.args.rows.now)
    c.row-item.result c.loop-row.watch c.see.new.watch c.loop-row.table c.see.new.table
    (next-row c.args.rows.now c.loop-row.row-index c.row-item.result c.loop-row-test.true c.row-item.is)
    (c.loop-row.invariant system horizon past watched kept order)
    (c.see.ensures.watch system)
    (c.see.ensures.table system horizon)

pub returns : goal.returns
returns c system horizon past watched kept order =
    follows-all system horizon past c.args.rows.now (drop c.loop-row.row-index c.args.rows.now) c.loop-row.watch c.loop-row.table
    (drop_all c.loop-row.row-index c.args.rows.now c.loop-row-test.false)
    (c.loop-row.invariant system horizon past watched kept order)
