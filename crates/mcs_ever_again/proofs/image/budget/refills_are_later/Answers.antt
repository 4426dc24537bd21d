use Rattle.std.proofs.Common.{arith, rules}
use Rattle.mcs_ever_again.proofs.RefillDates.{all-later}
use Rattle.mcs_ever_again.proofs.image.budget.refills_are_later.Goals as goal

pub returns : goal.returns
returns c = (
  λ _. all-later c.args.lag c.args.before.now c.args.after.now (grind (arith, c.if-before-after.false))
      (λ k within. c.loop-i.invariant k (omega (arith, within, c.loop-i-test.false))),
  λ _. search rules,
)
