use Rattle.mcs_step.specs.Steps.{places_left}
use Rattle.mcs_team.proofs.InStep.{IsGoing}
use Rattle.mcs_team.proofs.here.flow_in_step.Given as goal

abbrev pub invariant-rounds : goal.invariant-rounds
invariant-rounds g l =
    IsGoing g.W.Part.Out.Sink.takes g.W.Told.Collector.holds l.initial.steps.system l.initial.steps.horizon l.initial.out l.steps l.told l.out

abbrev pub decreases-rounds : goal.decreases-rounds
decreases-rounds g l = places_left l.steps
