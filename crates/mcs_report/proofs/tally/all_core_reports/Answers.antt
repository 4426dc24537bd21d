use Rattle.std.proofs.Common.{arith}
use Rattle.std.proofs.lemmas.Grind.{common_steps}
use Rattle.std.proofs.lemmas.List.FromFn.{map-range_with_len_more}
use Rattle.mcs_report.specs.Reports.{core_report_of}
use Rattle.mcs_report.specs.Tally.{ran_by}
use Rattle.mcs_report.proofs.tally.all_core_reports.Goals as goal

pub loop-core-preserved : goal.loop-core-preserved
loop-core-preserved c =
    let more = map-range_with_len_more (λ k. core_report_of c.args.horizon (ran_by c.args.horizon c.args.accounts.now k)) 0 c.loop-core.core c.loop-core.core (omega arith) in
    grind (arith, common_steps)
