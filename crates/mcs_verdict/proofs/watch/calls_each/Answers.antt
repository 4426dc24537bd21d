use Rattle.std.proofs.Common.{◌≡◌, ◌+◌, false, drop, subst, sym, ◌∙◌}
use Rattle.std.proofs.lemmas.List.{drop_all}
use Rattle.mcs_verdict.proofs.Lists.{next-row}
use Rattle.mcs_verdict.specs.declared.account.Account.{Account}
use Rattle.mcs_verdict.proofs.Called.{called, not_called, calls_all, calls_one_not}
use Rattle.mcs_verdict.proofs.watch.calls_each.Goals as goal

pub returns-then-not-calls : goal.returns-then-not-calls
returns-then-not-calls c firsts parts past e =
    let i = c.loop-tracked.tracked-index in
    calls_one_not firsts c.args.note c.args.word parts past c.args.accounts.now (drop i c.args.accounts.now) (drop (i + 1) c.args.accounts.now) c.tracked-item.result e
    (next-row c.args.accounts.now i c.tracked-item.result c.loop-tracked-test.true c.tracked-item.is)
    (subst (λ (d : Account). called c.args.note c.args.word d ≡ false) c.account-account.ensures
    (not_called c.args.note c.args.word c.in-Some.first c.account-account.result.now c.in-Some.is (sym c.eq.ensures ∙ c.if-eq.true) (sym c.calls.ensures ∙ c.if-not-calls.true)))
    c.loop-tracked.invariant

pub returns : goal.returns
returns c firsts parts past e =
    calls_all firsts c.args.note c.args.word parts past c.args.accounts.now (drop c.loop-tracked.tracked-index c.args.accounts.now) e
    (drop_all c.loop-tracked.tracked-index c.args.accounts.now c.loop-tracked-test.false) c.loop-tracked.invariant
