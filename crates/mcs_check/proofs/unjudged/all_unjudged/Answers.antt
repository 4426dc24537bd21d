use Rattle.std.proofs.Common.{[]}
use Rattle.mcs_hints.proofs.Numbers.{kept_more}
use Rattle.mcs_check.specs.Judged.{unjudged}
use Rattle.mcs_check.proofs.unjudged.all_unjudged.Goals as goal

pub loop-number-preserved : goal.loop-number-preserved
loop-number-preserved c = λ past e up.
    kept_more (unjudged c.args.parts.now past c.args.horizon) c.loop-number.number c.unjudged-one.result [] _ _ (c.loop-number.invariant past e up)
    c.in_ok-keep_unjudged.ensures (c.unjudged-one.ensures past e up)
