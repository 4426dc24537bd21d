use Rattle.std.proofs.Common.{◌-◌, sym, ap, ◌∙◌, arith}
use Rattle.mcs_verdict.specs.declared.account.Account.{Account}
use Rattle.mcs_verdict.specs.Account.{activated_since}
use Rattle.mcs_verdict.specs.Jobs.{or_now}
use Rattle.mcs_verdict.specs.Misses.{is_above}
use Rattle.mcs_verdict.proofs.Kept.{miss_in_time, miss_unknown}
use Rattle.mcs_verdict.proofs.watch.is_late.Goals as goal

pub returns-then-thread-accounts : goal.returns-then-thread-accounts
returns-then-thread-accounts c system past number e up early =
    miss_in_time system past c.args.accounts.now c.args.moment c.thread.inside.0 c.args.thread number c.index-accounts-thread.result
    c.thread.view_is e up c.if-thread-accounts.true c.index-accounts-thread.is
    (ap (λ (d : Account). is_above d.deadline (c.args.moment - or_now c.args.moment (activated_since c.args.moment d))) (sym c.account.ensures)
    ∙ sym c.is_late.ensures ∙ early)

pub returns-else-thread-accounts : goal.returns-else-thread-accounts
returns-else-thread-accounts c system past number e up early =
    sym (miss_unknown system past c.args.accounts.now c.args.moment c.args.thread number e (omega (arith, c.thread.view_is, c.if-thread-accounts.false)))
