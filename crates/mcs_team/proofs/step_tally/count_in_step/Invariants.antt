use Rattle.mcs_step.specs.Steps.{places_left}
use Rattle.mcs_team.proofs.StepCounts.{IsCounted}
use Rattle.mcs_team.proofs.step_tally.count_in_step.Given as goal

abbrev pub invariant-rounds : goal.invariant-rounds
invariant-rounds g l = IsCounted l.initial.steps.system l.initial.steps.horizon l.steps l.counted.tally

abbrev pub decreases-rounds : goal.decreases-rounds
decreases-rounds g l = places_left l.steps
