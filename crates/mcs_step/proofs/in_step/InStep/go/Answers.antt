use Rattle.std.proofs.Common.{◌≡◌, ◌<◌, ◌⊎◌, ◌∙◌, inl, inr, sym, subst, rules}
use Rattle.mcs_step.specs.Steps.{places_left, AreAfter, IsOver}
use Rattle.mcs_step.proofs.Counted.{told-more, less-since, ends-since}
use Rattle.mcs_step.proofs.in_step.InStep.go.Goals as goal

pub returns-then-size-enough-clause-told : goal.returns-then-size-enough-clause-told
returns-then-size-enough-clause-told g c =
    told-more g.S.Sink.takes c.args.self.now c.turns.self c.step.new.self c.args.told.now c.turns.told c.step.new.told c.turns.invariant.told c.in_ok-step.ensures.told

pub returns-clause-told : goal.returns-clause-told
returns-clause-told g c =
    told-more g.S.Sink.takes c.args.self.now c.turns.self c.step.new.self c.args.told.now c.turns.told c.step.new.told c.turns.invariant.told c.in_ok-step.ensures.told

pub turns-preserved : goal.turns-preserved
turns-preserved g c =
    let less : places_left c.step.new.self < places_left c.turns.self = search rules in
    record {
      system_is = c.in_ok-step.ensures.run.0 ∙ c.turns.invariant.system_is;
      horizon_is = c.in_ok-step.ensures.run.1 ∙ c.turns.invariant.horizon_is;
      up_to = c.in_ok-step.ensures.up_to;
      last_is = c.turns.invariant.last_is;
      told = told-more g.S.Sink.takes c.args.self.now c.turns.self c.step.new.self c.args.told.now c.turns.told c.step.new.told c.turns.invariant.told c.in_ok-step.ensures.told;
      fewer = inr (less-since c.args.self.now c.turns.self c.step.new.self c.turns.invariant.fewer less);
    }

pub returns-then-size-enough-clause-fewer : goal.returns-then-size-enough-clause-fewer
returns-then-size-enough-clause-fewer g c =
    let less : places_left c.step.new.self < places_left c.turns.self = search rules in
    inr (less-since c.args.self.now c.turns.self c.step.new.self c.turns.invariant.fewer less)

pub returns-clause-fewer : goal.returns-clause-fewer
returns-clause-fewer g c =
    let after : AreAfter c.self.inside.horizon c.step.new.self = search rules in
    let was : c.self.inside.horizon ≡ c.turns.self.horizon = c.turns.invariant.last_is ∙ sym c.turns.invariant.horizon_is in
    let ends : IsOver c.turns.self ⊎ (places_left c.step.new.self < places_left c.turns.self) =
    elim c.in_ok-step.ensures.ends [ inl before ↦ inl (subst (λ h. AreAfter h c.turns.self) was before) | inr less ↦ inr less ] in
    ends-since c.args.self.now c.turns.self c.step.new.self c.turns.invariant.fewer ends (subst (λ h. AreAfter h c.step.new.self) (was ∙ sym c.in_ok-step.ensures.run.1) after)
