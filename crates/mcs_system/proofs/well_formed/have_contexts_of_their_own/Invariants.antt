use Rattle.mcs_system.proofs.Marks.{AreMarked}
use Rattle.mcs_system.proofs.well_formed.have_contexts_of_their_own.Given as goal

abbrev pub invariant-loop-thread : goal.invariant-loop-thread
invariant-loop-thread l = AreMarked (λ thread. thread.context) l.threads l.has_thread l.thread-index
