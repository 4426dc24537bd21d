use Rattle.std.proofs.Common.{◌+◌, cond, ◌∷◌, sym, ap, ◌∙◌, arith}
use Rattle.mcs_verdict.specs.declared.job.Job.{Job}
use Rattle.mcs_verdict.specs.Misses.{is_above}
use Rattle.mcs_table.specs.Table.{account_with}
use Rattle.mcs_table.proofs.Ended.{round_told, round_known, round_untold}
use Rattle.mcs_table.proofs.table.end_round.Goals as goal

pub returns-then-job-accounts : goal.returns-then-job-accounts
returns-then-job-accounts c system horizon past e is =
    round_told system horizon c.in-Round.thread c.in-Round.number c.in-Round.response c.job.inside.0.0.0 c.args.row.now past c.args.accounts.now
    c.in-Some.job c.index-accounts-job.result c.end.new.self e (sym c.in-Some.is ∙ is) c.in-Round.is
    (ap (λ (job : Job). job.thread) c.job.view_is) c.index-accounts-job.is
    (λ horizon deadline late responses h.
    c.end.ensures horizon deadline late responses (sym c.index-accounts-job.is ∙ h)
    ∙ ap
    (λ (job : Job). account_with horizon deadline (job.response ∷ responses) (cond (is_above deadline c.in-Round.response) 1 0 + late))
    c.job.view_is)

pub returns-else-job-accounts : goal.returns-else-job-accounts
returns-else-job-accounts c system horizon past e is =
    let has =
    round_known system horizon c.in-Round.thread c.in-Round.number c.in-Round.response c.job.inside.0.0.0 c.args.row.now past c.args.accounts.now
    c.in-Some.job e (sym c.in-Some.is ∙ is) c.in-Round.is (ap (λ (job : Job). job.thread) c.job.view_is)
    in
    absurd (omega (arith, has, c.if-job-accounts.false))

pub returns-in_default : goal.returns-in_default
returns-in_default c system horizon past e is =
    round_untold system horizon c.args.row.now past c.args.accounts.now e (sym c.in_default.is ∙ is)
