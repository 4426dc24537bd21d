use Rattle.std.proofs.Common.{◌≡◌, refl, ap, ◌∙◌, rules}
use Rattle.std.specs.Arc.{arc_value}
use Rattle.mcs_core.specs.Clock.{schedule}
use Rattle.mcs_report.specs.Tally.{opened_tally}
use Rattle.mcs_report.specs.laws.Agreement.{tally_of}
use Rattle.mcs_system.specs.WellFormed.{IsWellFormed}
use Rattle.mcs_step.specs.Steps.{Steps}
use Rattle.mcs_team.proofs.Headlines.{reported}
use Rattle.mcs_team.proofs.step_tally.report_in_step.Goals as goal

pub returns : goal.returns
returns g c =
    let system = arc_value c.args.system in
    let horizon = c.args.horizon in
    let well : IsWellFormed system = search rules in
    let all : c.in_ok-counted.counted ≡ tally_of system horizon (schedule system horizon) =
    c.in_ok-counted.ensures ∙ ap (λ (steps : Steps). tally_of steps.system steps.horizon (schedule steps.system steps.horizon)) c.in_ok-steps.ensures in
    reported system horizon (opened_tally system horizon) c.in_ok-counted.counted c.finish.result c.schedules_are_reported.ensures well refl all c.finish.ensures
