use Rattle.std.proofs.Common.{◌≡◌, length, ap, arith}
use Rattle.std.proofs.lemmas.List.{drop_all}
use Rattle.mcs_table.proofs.Kept.{ran_all}
use Rattle.mcs_table.proofs.unused.ran.Goals as goal

pub returns : goal.returns
returns c past e up =
    let same : length c.as_slice-part-items.result.now ≡ length c.args.parts.now.threads = ap length c.as_slice-part-items.ensures in
    ran_all c.args.horizon c.args.context c.loop-number.number c.loop-number.ran past c.args.parts.now.threads _
    (drop_all c.loop-number.number c.args.parts.now.threads (omega (arith, same, c.loop-number-test.false))) c.loop-number.invariant.0
    (c.loop-number.invariant.1 past e up)
