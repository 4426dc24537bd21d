use Rattle.mcs_ever.specs.Closed.{has}
use Rattle.mcs_ever_found.specs.Tests.{ThreadsRecur}
use Rattle.mcs_ever_found.proofs.recurs.findings.threads_recur.Given as goal

abbrev pub invariant-loop-thread : goal.invariant-loop-thread
invariant-loop-thread l = ThreadsRecur l.system (has l.group) l.by l.from l.before l.after l.doings l.thread
