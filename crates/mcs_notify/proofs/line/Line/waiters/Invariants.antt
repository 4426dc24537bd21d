use Rattle.std.proofs.Common.{◌≡◌}
use Rattle.mcs_notify.specs.stored.Lines.{nth, waiters_from}
use Rattle.mcs_notify.proofs.line.Line.waiters.Given as goal

abbrev pub invariant-loop : goal.invariant-loop
invariant-loop l =
    (l.list.items ≡ waiters_from l.places l.self.first l.counter) × (l.thread ≡ nth l.places l.self.first l.counter)
