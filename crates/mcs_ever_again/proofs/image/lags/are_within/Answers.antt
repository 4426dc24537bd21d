use Rattle.std.proofs.Common.{arith, rules}
use Rattle.std.proofs.lemmas.List.{get_or_default}
use Rattle.mcs_ever_again.proofs.Told.{all-within}
use Rattle.mcs_ever_again.proofs.image.lags.are_within.Goals as goal

pub returns : goal.returns
returns c = (
  λ _. all-within c.args.by c.args.lags.now
      (λ k l. omega (arith, c.loop-lag.invariant k (omega (arith, l, c.loop-lag-test.false)), get_or_default c.args.lags.now k 0 c.args.by l)),
  λ _. search rules,
)
