use Rattle.std.proofs.Common.{sym, ◌∙◌, ap, ◌++◌, subst}
use Rattle.std.specs.Arc.{arc_value}
use Rattle.mcs_core.specs.Clock.{schedule}
use Rattle.mcs_report.specs.laws.Bandwidth.{RunsWithinBandwidth}
use Rattle.mcs_team.specs.Headline.{Headline}
use Rattle.mcs_team.proofs.Sinks.{keeps}
use Rattle.mcs_team.proofs.whole.simulate.Goals as goal

pub returns-in-Ok-clause-rows : goal.returns-in-Ok-clause-rows
returns-in-Ok-clause-rows g c =
    let all = schedule (arc_value c.args.system) c.args.horizon in
    c.new.ensures ∙ keeps c.new-kept.result c.simulate_to.new.sink all c.in-Ok.ensures.given
    ∙ ap (λ xs. xs ++ all) c.new-kept.ensures

pub returns-in-Ok-clause-bandwidth : goal.returns-in-Ok-clause-bandwidth
returns-in-Ok-clause-bandwidth g c =
    subst (RunsWithinBandwidth (arc_value c.args.system) c.args.horizon) (sym (returns-in-Ok-clause-rows g c)) c.in-Ok.ensures.bandwidth

pub returns-in-Ok-clause-headline : goal.returns-in-Ok-clause-headline
returns-in-Ok-clause-headline g c =
    subst (λ rows. Headline (arc_value c.args.system) c.args.horizon rows c.in-Ok.reports) (sym (returns-in-Ok-clause-rows g c)) c.in-Ok.ensures.headline
