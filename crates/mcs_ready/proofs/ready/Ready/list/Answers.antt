use Rattle.mcs_ready.proofs.Kept.{IsLine-kept}
use Rattle.mcs_ready.proofs.ready.Ready.list.Goals as goal

pub threads_by_priority-requires-clause-lines : goal.threads_by_priority-requires-clause-lines
threads_by_priority-requires-clause-lines c = λ p. rw (c.deref.ensures.value, c.deref-2.ensures.value) (IsLine-kept _ _ _ c.self.invariant p)
