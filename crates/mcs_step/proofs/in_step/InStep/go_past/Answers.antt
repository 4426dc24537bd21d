use Rattle.std.proofs.Common.{◌∙◌}
use Rattle.mcs_step.proofs.Counted.{told-more}
use Rattle.mcs_step.proofs.in_step.InStep.go_past.Goals as goal

pub returns-clause-told : goal.returns-clause-told
returns-clause-told g c =
    told-more g.S.Sink.takes c.args.self.now c.turns.self c.step.new.self c.args.told.now c.turns.told c.step.new.told c.turns.invariant.told c.in_ok-step.ensures.told

pub turns-preserved : goal.turns-preserved
turns-preserved g c =
    record {
      system_is = c.in_ok-step.ensures.run.0 ∙ c.turns.invariant.system_is;
      horizon_is = c.in_ok-step.ensures.run.1 ∙ c.turns.invariant.horizon_is;
      up_to = c.in_ok-step.ensures.up_to;
      told = told-more g.S.Sink.takes c.args.self.now c.turns.self c.step.new.self c.args.told.now c.turns.told c.step.new.told c.turns.invariant.told c.in_ok-step.ensures.told;
    }
