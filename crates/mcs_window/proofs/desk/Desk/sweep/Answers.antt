use Rattle.std.proofs.Common.{rules}
use Rattle.mcs_window.proofs.Going.{later-more, spent-more}
use Rattle.mcs_window.proofs.desk.Desk.sweep.Goals as goal

pub returns-in_err-ran-clause-spent : goal.returns-in_err-ran-clause-spent
returns-in_err-ran-clause-spent g c =
    let spent = spent-more c.args.self.now c.loop-core.self c.run_busy.new.self c.loop-core.invariant.later c.in_err-ran.ensures.spent in
    search rules

pub loop-core-preserved : goal.loop-core-preserved
loop-core-preserved g c =
    let later = later-more c.args.self.now c.loop-core.self c.run_busy.new.self c.loop-core.invariant.later c.in_ok-ran.ensures.later in
    search rules
