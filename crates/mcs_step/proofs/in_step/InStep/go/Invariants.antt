use Rattle.std.proofs.Common.{◌≡◌, ◌<◌, ◌⊎◌}
use Rattle.mcs_step.specs.Steps.{places_left, IsToldBetween, IsUpTo}
use Rattle.mcs_step.proofs.in_step.InStep.go.Given as goal

abbrev pub invariant-turns : goal.invariant-turns
invariant-turns g l = record {
  system_is : l.self.system ≡ l.initial.self.system;
  horizon_is : l.self.horizon ≡ l.initial.self.horizon;
  up_to : IsUpTo l.last l.self;
  last_is : l.last ≡ l.initial.self.horizon;
  told : IsToldBetween g.S.Sink.takes l.initial.self l.self l.initial.told l.told;
  fewer : (l.self ≡ l.initial.self) ⊎ (places_left l.self < places_left l.initial.self);
}

abbrev pub decreases-turns : goal.decreases-turns
decreases-turns g l = places_left l.self
