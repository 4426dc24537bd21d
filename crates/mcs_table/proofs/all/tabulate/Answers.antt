use Rattle.std.proofs.Common.{[], length, ap, ◌∙◌}
use Rattle.mcs_verdict.specs.Findings.{past_of}
use Rattle.mcs_verdict.specs.Words.{firsts_of}
use Rattle.mcs_verdict.specs.Watch.{Watch}
use Rattle.mcs_verdict.proofs.Watches.{length-accounts as length-watched}
use Rattle.mcs_table.specs.Table.{Table}
use Rattle.mcs_table.proofs.Ended.{length-accounts}
use Rattle.mcs_table.proofs.all.tabulate.Goals as goal

pub returns-clause-watched : goal.returns-clause-watched
returns-clause-watched c =
    let system = c.args.system.now in
    let both = c.see_all.ensures system c.args.horizon [] c.in_ok-watch.ensures c.in_ok-table.ensures c.requires in
    ap (λ (watch : Watch). length watch.accounts) both.0
    ∙ length-watched (firsts_of system) 0 system.threads (past_of [] c.args.rows.now)

pub returns-clause-kept : goal.returns-clause-kept
returns-clause-kept c =
    let system = c.args.system.now in
    let both = c.see_all.ensures system c.args.horizon [] c.in_ok-watch.ensures c.in_ok-table.ensures c.requires in
    ap (λ (table : Table). length table.accounts) both.1
    ∙ length-accounts system c.args.horizon 0 system.threads (past_of [] c.args.rows.now)
