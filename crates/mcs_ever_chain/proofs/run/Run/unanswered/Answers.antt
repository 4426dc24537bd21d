use Rattle.std.proofs.Common.{◌∙◌, ◌-◌, ℕ, ap}
use Rattle.mcs_ever_found.specs.Recurs.{past_before}
use Rattle.mcs_ever_chain.specs.stored.Runs.{left_at}
use Rattle.mcs_ever_chain.proofs.run.Run.unanswered.Goals as goal

pub returns : goal.returns
returns c = λ part is at.
    let run = c.args.self.now in
    let s = c.args.system.now in
    c.unanswered_of.ensures (past_before s run.lockstep.clock) part is.watch at
    ∙ ap (λ (h : ℕ). left_at s part run.lockstep.clock h) (c.before-2.ensures ∙ ap (λ (t : ℕ). t - 1) c.clock.ensures.value)
