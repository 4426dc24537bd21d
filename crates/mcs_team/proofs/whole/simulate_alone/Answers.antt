use Rattle.std.proofs.Common.{◌≡◌, sym, subst, ◌∙◌, rules}
use Rattle.std.specs.Prelude.{fold}
use Rattle.std.specs.Arc.{arc_value}
use Rattle.mcs_system.specs.WellFormed.{IsWellFormed}
use Rattle.mcs_core.specs.Clock.{schedule}
use Rattle.mcs_report.specs.Tally.{added}
use Rattle.mcs_report.specs.laws.Bandwidth.{RunsWithinBandwidth}
use Rattle.mcs_team.proofs.Headlines.{reported, within, whole-headline}
use Rattle.mcs_team.proofs.whole.simulate_alone.Goals as goal

pub returns-clause-rows : goal.returns-clause-rows
returns-clause-rows c = c.new-2.ensures ∙ c.in_ok-rows.ensures

pub returns-clause-reports : goal.returns-clause-reports
returns-clause-reports c =
    let well : IsWellFormed (arc_value c.args.system) = search rules in
    let counted : c.add_all.new.self ≡ fold added c.in_ok-tally.tally (schedule (arc_value c.args.system) c.args.horizon) = search rules in
    reported (arc_value c.args.system) c.args.horizon c.in_ok-tally.tally c.add_all.new.self c.finish.result c.schedules_are_reported.ensures well
    (search rules) counted c.finish.ensures

pub returns-clause-demand : goal.returns-clause-demand
returns-clause-demand c =
    let well : IsWellFormed (arc_value c.args.system) = search rules in
    within (arc_value c.args.system) c.args.horizon c.finish.result c.demand_is_bounded.ensures well (returns-clause-reports c)

pub returns-clause-bandwidth : goal.returns-clause-bandwidth
returns-clause-bandwidth c =
    let well : IsWellFormed (arc_value c.args.system) = search rules in
    subst (RunsWithinBandwidth (arc_value c.args.system) c.args.horizon) (sym (returns-clause-rows c))
    (c.bandwidth_is_bounded.ensures (arc_value c.args.system) well c.args.horizon)

pub returns-clause-headline : goal.returns-clause-headline
returns-clause-headline c =
    let well : IsWellFormed (arc_value c.args.system) = search rules in
    whole-headline (arc_value c.args.system) c.args.horizon c.new-2.result c.finish.result well (returns-clause-rows c) (returns-clause-reports c)
