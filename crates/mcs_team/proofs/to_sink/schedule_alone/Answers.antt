use Rattle.std.proofs.Common.{refl, rules}
use Rattle.std.specs.Arc.{arc_value}
use Rattle.mcs_system.specs.WellFormed.{IsWellFormed}
use Rattle.mcs_core.specs.Clock.{schedule}
use Rattle.mcs_report.specs.Reports.{reports_of}
use Rattle.mcs_team.proofs.Giving.{known_on_ok}
use Rattle.mcs_team.proofs.Headlines.{whole-headline}
use Rattle.mcs_team.proofs.to_sink.schedule_alone.Goals as goal

pub returns-clause-bandwidth : goal.returns-clause-bandwidth
returns-clause-bandwidth g c =
    let well : IsWellFormed (arc_value c.args.system) = search rules in
    known_on_ok c.flow_here.result (c.bandwidth_is_bounded.ensures (arc_value c.args.system) well c.args.horizon)

pub returns-clause-headline : goal.returns-clause-headline
returns-clause-headline g c =
    let well : IsWellFormed (arc_value c.args.system) = search rules in
    let rows = schedule (arc_value c.args.system) c.args.horizon in
    known_on_ok c.flow_here.result
    (whole-headline (arc_value c.args.system) c.args.horizon rows (reports_of (arc_value c.args.system) c.args.horizon rows) well refl refl)
