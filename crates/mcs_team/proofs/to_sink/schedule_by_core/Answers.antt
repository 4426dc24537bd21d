use Rattle.std.proofs.Common.{refl, rules}
use Rattle.std.specs.Arc.{arc_value}
use Rattle.mcs_system.specs.WellFormed.{IsWellFormed}
use Rattle.mcs_core.specs.Clock.{schedule}
use Rattle.mcs_report.specs.Reports.{reports_of}
use Rattle.mcs_team.proofs.Giving.{known_on_ok}
use Rattle.mcs_team.proofs.Headlines.{whole-headline}
use Rattle.mcs_team.proofs.to_sink.schedule_by_core.Goals as goal

pub returns-then-workers-lt2-clause-bandwidth : goal.returns-then-workers-lt2-clause-bandwidth
returns-then-workers-lt2-clause-bandwidth g c =
    let well : IsWellFormed (arc_value c.args.plan.system) = search rules in
    known_on_ok c.flow_here.result (c.bandwidth_is_bounded.ensures (arc_value c.args.plan.system) well c.args.plan.horizon)

pub returns-then-workers-lt2-clause-headline : goal.returns-then-workers-lt2-clause-headline
returns-then-workers-lt2-clause-headline g c =
    let well : IsWellFormed (arc_value c.args.plan.system) = search rules in
    let rows = schedule (arc_value c.args.plan.system) c.args.plan.horizon in
    known_on_ok c.flow_here.result
    (whole-headline (arc_value c.args.plan.system) c.args.plan.horizon rows (reports_of (arc_value c.args.plan.system) c.args.plan.horizon rows) well refl refl)

pub returns-else-workers-lt2-clause-bandwidth : goal.returns-else-workers-lt2-clause-bandwidth
returns-else-workers-lt2-clause-bandwidth g c =
    let well : IsWellFormed (arc_value c.args.plan.system) = search rules in
    known_on_ok c.flow_team.result (c.bandwidth_is_bounded.ensures (arc_value c.args.plan.system) well c.args.plan.horizon)

pub returns-else-workers-lt2-clause-headline : goal.returns-else-workers-lt2-clause-headline
returns-else-workers-lt2-clause-headline g c =
    let well : IsWellFormed (arc_value c.args.plan.system) = search rules in
    let rows = schedule (arc_value c.args.plan.system) c.args.plan.horizon in
    known_on_ok c.flow_team.result
    (whole-headline (arc_value c.args.plan.system) c.args.plan.horizon rows (reports_of (arc_value c.args.plan.system) c.args.plan.horizon rows) well refl refl)
