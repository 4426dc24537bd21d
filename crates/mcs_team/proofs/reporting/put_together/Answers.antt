use Rattle.std.proofs.Common.{ap, ◌∙◌, rules}
use Rattle.std.specs.Arc.{arc_value}
use Rattle.mcs_report.specs.CoreTally.{joined}
use Rattle.mcs_report.specs.Tally.{Tally, finished}
use Rattle.mcs_system.specs.System.{System}
use Rattle.mcs_system.specs.WellFormed.{IsWellFormed}
use Rattle.mcs_team.specs.Counts.{AreWhole}
use Rattle.mcs_team.proofs.Tallies.{whole-reported}
use Rattle.mcs_team.proofs.reporting.put_together.Goals as goal

pub returns-in-Some : goal.returns-in-Some
returns-in-Some c =
    let system = arc_value c.args.system in
    let well : IsWellFormed system = search rules in
    let whole : AreWhole system c.args.horizon c.in-Some.tallies.items = rw c.in-Some.is at c.requires.found in
    whole-reported c.core_tallies_give_reports.ensures system c.args.horizon well c.in-Some.tallies.items whole c.together.result
    (c.together.ensures
    ∙ ap (λ (p : System). finished (joined p c.args.tally.horizon c.as_slice.result.now)) c.requires.places
    ∙ ap (λ (t : Tally). finished (joined system t.horizon c.as_slice.result.now)) c.requires.tally
    ∙ ap (λ xs. finished (joined system c.args.horizon xs)) c.as_slice.ensures.value)
