use Rattle.std.proofs.Common.{rules}
use Rattle.mcs_core.specs.Clock.{schedule}
use Rattle.mcs_report.specs.Reports.{reports_of}
use Rattle.mcs_text.specs.Text.{reports_text, schedule_text}
use Rattle.std.specs.Arc.{arc_value}
use Rattle.mcs_cli.proofs.Flow.{fault-longer, fault-last}
use Rattle.mcs_cli.proofs.output.put_output.Goals as goal

pub returns-in_err-reports-in-Both-clause-fault : goal.returns-in_err-reports-in-Both-clause-fault
returns-in_err-reports-in-Both-clause-fault g c =
    let system = arc_value c.args.system.now in
    let horizon = c.args.options.now.horizon in
    let rows = schedule system horizon in
    let longer = fault-longer _ _ _ (schedule_text system rows) (reports_text system (reports_of system horizon rows)) _ c.in_err-reports-in-Both.ensures.fault in
    rw c.in-Both.is
    (search rules)

pub returns-in_ok-reports-in-Both-clause-fault : goal.returns-in_ok-reports-in-Both-clause-fault
returns-in_ok-reports-in-Both-clause-fault g c =
    let system = arc_value c.args.system.now in
    let horizon = c.args.options.now.horizon in
    let rows = schedule system horizon in
    rw c.in-Both.is
    (fault-last _ _ _ (schedule_text system rows) (reports_text system (reports_of system horizon rows)) _ c.put_counted.result c.in_ok-reports-in-Both.ensures.ok c.in_ok-reports-in-Both.ensures.working c.put_counted.ensures.fault)
