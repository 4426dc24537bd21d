use Rattle.std.proofs.Common.{◌≡◌, drop, ◌++◌}
use Rattle.mcs_chain.specs.Watch.{all_due}
use Rattle.mcs_chain.proofs.chains.due_of.Given as goal

abbrev pub invariant-loop-number : goal.invariant-loop-number
invariant-loop-number l =
    l.due.items ++ all_due l.before l.number (drop l.number l.each) ≡ all_due l.before 0 l.each
