use Rattle.std.proofs.Common.{◌+◌, drop, refl}
use Rattle.std.proofs.lemmas.List.{drop_all}
use Rattle.mcs_verdict.proofs.Lists.{next-row}
use Rattle.mcs_why.proofs.Rows.{searches-row, searches-all}
use Rattle.mcs_why.proofs.all.see_all.Goals as goal

pub loop-row-init : goal.loop-row-init
loop-row-init c system thread number past watched kept order =
    record { seen = past; watched = watched; kept = kept; in_order = order; past_is = refl }

pub loop-row-preserved : goal.loop-row-preserved
loop-row-preserved c system thread number past watched kept order =
    searches-row system thread number past c.args.rows.now (drop c.loop-row.row-index c.args.rows.now)
    (drop (c.loop-row.row-index + 1) c.args.rows.now) c.row-item.result c.loop-row.watch c.see.new.watch c.loop-row.search c.see.new.search
    (next-row c.args.rows.now c.loop-row.row-index c.row-item.result c.loop-row-test.true c.row-item.is)
    (c.loop-row.invariant system thread number past watched kept order)
    (c.see.ensures.watch system)
    (c.see.ensures.search system thread number)

pub returns : goal.returns
returns c system thread number past watched kept order =
    searches-all system thread number past c.args.rows.now (drop c.loop-row.row-index c.args.rows.now) c.loop-row.watch c.loop-row.search
    (drop_all c.loop-row.row-index c.args.rows.now c.loop-row-test.false)
    (c.loop-row.invariant system thread number past watched kept order)
