use Rattle.mcs_ever_found.specs.Recurs.{past_before}
use Rattle.mcs_ever_chain.proofs.Counting.{same-counts}
use Rattle.mcs_ever_chain.proofs.run.Run.counts.Goals as goal

pub returns : goal.returns
returns c = λ system part is at.
    let run = c.args.self.now in
    let past = past_before system run.lockstep.clock in
    same-counts _ _ _ _ _ _ _ _ (c.answers_of.ensures run.lockstep.horizon system past part is.tallies at) (c.slow_of.ensures system past part is.watch at)
    (c.interrupts_of.ensures run.lockstep.horizon system past part is.tallies at) (c.greatest_of.ensures run.lockstep.horizon system past part is.tallies at)
