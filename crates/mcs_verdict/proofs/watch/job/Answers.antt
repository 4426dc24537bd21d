use Rattle.std.proofs.Common.{◌≡◌, ◌+◌, ◌<◌, ◌^◌, subst, arith}
use Rattle.mcs_verdict.specs.declared.account.Account.{Account}
use Rattle.mcs_verdict.specs.Account.{all_kept, job_by}
use Rattle.mcs_verdict.proofs.Kept.{job_told, job_unknown}
use Rattle.mcs_verdict.proofs.watch.job.Goals as goal

pub returns-then-thread-accounts : goal.returns-then-thread-accounts
returns-then-thread-accounts c system past e up =
    job_told system past c.args.accounts.now c.args.moment c.thread.inside.0 c.args.thread c.args.number
    c.index-accounts-thread.result c.job.result c.thread.view_is e up (omega (arith, c.get.ensures.value, c.get.ensures.in_range))
    c.if-thread-accounts.true c.index-accounts-thread.is
    (subst (λ (d : Account). all_kept d + c.args.moment < 2 ^ 64 → c.job.result ≡ job_by c.args.moment c.args.thread c.args.number d) c.account.ensures c.job.ensures)

pub returns-else-thread-accounts : goal.returns-else-thread-accounts
returns-else-thread-accounts c system past e up =
    job_unknown system past c.args.accounts.now c.args.moment c.thread.inside.0 c.args.thread c.args.number c.thread.view_is e
    c.if-thread-accounts.false
