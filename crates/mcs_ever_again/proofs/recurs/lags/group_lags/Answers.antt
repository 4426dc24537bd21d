use Rattle.std.proofs.Common.{◌+◌, List, length, Option, None, sym, subst, ◌∙◌, ap}
use Rattle.mcs_ever_again.specs.declared.image.lags.Lags.{Lags}
use Rattle.mcs_ever_again.specs.Told.{AreAgain}
use Rattle.mcs_ever_again.proofs.Again.{none-shift, again-more, length-more}
use Rattle.mcs_ever_again.proofs.recurs.lags.group_lags.Goals as goal

pub loop-core-preserved-then-not-is_own : goal.loop-core-preserved-then-not-is_own
loop-core-preserved-then-not-is_own c =
    let n = c.loop-core.core in
    let before = c.args.before.now in
    let after = c.args.after.now in
    record {
      many =
          ap (λ (lags : List (Option Lags)). length lags) c.in_ok-push.ensures.items ∙ length-more c.loop-core.lags.items None n c.loop-core.invariant.many;
      each =
          subst (λ (lags : List (Option Lags)). AreAgain c.args.system.now c.args.by c.args.group.now before after lags (n + 1)) (sym c.in_ok-push.ensures.items)
          (again-more c.args.system.now c.args.by c.args.group.now before after c.loop-core.lags.items None n c.loop-core.invariant.many
          c.loop-core.invariant.each (λ past. record { shift = none-shift c.args.system.now c.args.by; again = λ own. cc (c.is_own.ensures) }));
    }
