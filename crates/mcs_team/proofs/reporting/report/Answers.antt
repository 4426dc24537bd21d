use Rattle.std.proofs.Common.{refl, rules}
use Rattle.std.specs.Arc.{arc_value}
use Rattle.mcs_system.specs.WellFormed.{IsWellFormed}
use Rattle.mcs_core.specs.Clock.{schedule}
use Rattle.mcs_team.proofs.Giving.{if_ok}
use Rattle.mcs_team.proofs.Headlines.{within, whole-headline}
use Rattle.mcs_team.proofs.reporting.report.Goals as goal

pub returns-then-workers-lt2-clause-demand : goal.returns-then-workers-lt2-clause-demand
returns-then-workers-lt2-clause-demand g c =
    let well : IsWellFormed (arc_value c.args.system) = search rules in
    if_ok c.report_here.result (λ reports are. within (arc_value c.args.system) c.args.horizon reports c.demand_is_bounded.ensures well are) c.report_here.ensures

pub returns-then-workers-lt2-clause-headline : goal.returns-then-workers-lt2-clause-headline
returns-then-workers-lt2-clause-headline g c =
    let well : IsWellFormed (arc_value c.args.system) = search rules in
    if_ok c.report_here.result (λ reports are. whole-headline (arc_value c.args.system) c.args.horizon (schedule (arc_value c.args.system) c.args.horizon) reports well refl are)
    c.report_here.ensures

pub returns-else-workers-lt2-clause-demand : goal.returns-else-workers-lt2-clause-demand
returns-else-workers-lt2-clause-demand g c =
    let well : IsWellFormed (arc_value c.args.system) = search rules in
    if_ok c.report_team.result (λ reports are. within (arc_value c.args.system) c.args.horizon reports c.demand_is_bounded.ensures well are) c.report_team.ensures

pub returns-else-workers-lt2-clause-headline : goal.returns-else-workers-lt2-clause-headline
returns-else-workers-lt2-clause-headline g c =
    let well : IsWellFormed (arc_value c.args.system) = search rules in
    if_ok c.report_team.result (λ reports are. whole-headline (arc_value c.args.system) c.args.horizon (schedule (arc_value c.args.system) c.args.horizon) reports well refl are)
    c.report_team.ensures
