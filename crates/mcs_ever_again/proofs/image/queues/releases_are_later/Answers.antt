use Rattle.std.proofs.Common.{arith, rules}
use Rattle.mcs_ever_again.proofs.Releases.{releases-all-later}
use Rattle.mcs_ever_again.proofs.image.queues.releases_are_later.Goals as goal

pub returns : goal.returns
returns c = (
  λ _. releases-all-later c.args.by c.args.before.now c.args.after.now (grind (arith, c.if-before-after.false))
      (λ k within. c.loop-i.invariant k (omega (arith, within, c.loop-i-test.false))),
  λ _. search rules,
)
