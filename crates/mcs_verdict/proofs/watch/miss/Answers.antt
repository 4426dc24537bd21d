use Rattle.std.proofs.Common.{◌≡◌, ◌+◌, ◌<◌, ◌^◌, subst, ap, ◌∙◌, arith}
use Rattle.mcs_verdict.specs.declared.account.Account.{Account}
use Rattle.mcs_system.specs.System.{thread_part}
use Rattle.mcs_verdict.specs.Account.{all_kept, miss_by}
use Rattle.mcs_verdict.specs.Misses.{missed}
use Rattle.mcs_verdict.proofs.Kept.{by_place, job-kept, miss_unknown}
use Rattle.mcs_verdict.proofs.watch.miss.Goals as goal

pub returns-then-thread-accounts : goal.returns-then-thread-accounts
returns-then-thread-accounts c system past e up =
    by_place (miss_by c.args.moment c.args.thread c.args.number) system past c.args.accounts.now c.args.moment c.thread.inside.0 c.args.thread
    c.index-accounts-thread.result c.miss.result c.thread.view_is e up (omega (arith, c.get.ensures.value, c.get.ensures.in_range))
    c.if-thread-accounts.true c.index-accounts-thread.is
    (subst (λ (d : Account). all_kept d + c.args.moment < 2 ^ 64 → c.miss.result ≡ miss_by c.args.moment c.args.thread c.args.number d) c.account.ensures c.miss.ensures)
    ∙ ap (missed (thread_part system c.args.thread).deadline) (job-kept system c.args.thread past c.args.moment c.args.number up)

pub returns-else-thread-accounts : goal.returns-else-thread-accounts
returns-else-thread-accounts c system past e up =
    miss_unknown system past c.args.accounts.now c.args.moment c.args.thread c.args.number e (omega (arith, c.thread.view_is, c.if-thread-accounts.false))
