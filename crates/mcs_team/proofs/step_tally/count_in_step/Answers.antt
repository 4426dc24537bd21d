use Rattle.std.proofs.Common.{rules}
use Rattle.mcs_step.specs.Steps.{IsOver}
use Rattle.mcs_team.specs.declared.step_tally.StepTally.{StepTally}
use Rattle.mcs_team.proofs.StepCounts.{counted-first, counted-next, counted-over}
use Rattle.mcs_team.proofs.step_tally.count_in_step.Goals as goal

pub rounds-init : goal.rounds-init
rounds-init g c = counted-first c.args.steps c.args.tally c.requires.unused c.requires.empty

pub rounds-preserved : goal.rounds-preserved
rounds-preserved g c =
    let r = c.rounds in
    let done = c.in_ok-go.ensures in
    counted-next c.args.steps.system c.args.steps.horizon (λ (s : StepTally). s.tally) r.counted c.go.new.told r.steps c.go.new.self r.invariant done.run.0 done.run.1 done.going done.told

pub returns : goal.returns
returns g c =
    let r = c.rounds in
    let over : IsOver r.steps = search rules in
    counted-over c.args.steps.system c.args.steps.horizon r.steps r.counted.tally r.invariant over
