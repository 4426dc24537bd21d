use Rattle.std.proofs.Common.{ℕ, [], None}
use borrow.Author.Count.{below_more}
use Rattle.mcs_core.specs.Clock.{core_at, world}
use Rattle.mcs_core.specs.Quiet.{IsNextBusy}
use Rattle.mcs_ever_search.proofs.rest.are_idle.Goals as goal

pub loop-core-preserved : goal.loop-core-preserved
loop-core-preserved c =
    let s = c.args.system.now in
    let t = c.args.lockstep.now.clock in
    below_more (λ (core : ℕ). IsNextBusy s core t [] (core_at s (world s t) core) None) c.loop-core.core c.loop-core.invariant
    (c.is_busy.ensures c.if-is_busy.false)
