use Rattle.mcs_ever_found.specs.Recurs.{past_before}
use Rattle.mcs_ever_chain.proofs.run.Run.state.Goals as goal

pub returns : goal.returns
returns c = λ system part is at. c.state.ensures system (past_before system c.args.self.now.lockstep.clock) part is.watch at
