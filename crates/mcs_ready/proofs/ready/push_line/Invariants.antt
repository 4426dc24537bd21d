use Rattle.mcs_ready.proofs.Listed.{IsListing}
use Rattle.mcs_ready.proofs.ready.push_line.Given as goal

abbrev pub invariant-loop : goal.invariant-loop
invariant-loop l = IsListing l.fn.list.items l.list.items l.next l.priority l.last l.thread l.counter
