use Rattle.std.proofs.Common.{◌≡◌, ◌<◌, ◌≤◌, ◌-◌}
use Rattle.mcs_notify.specs.stored.Lines.{IsBest, nth}
use Rattle.mcs_notify.proofs.line.Line.best.Given as goal

abbrev pub invariant-loop : goal.invariant-loop
invariant-loop l =
    (0 < l.counter) × (l.counter ≤ l.self.len) × (l.last ≡ nth l.places l.self.first (l.counter - 1))
    × (l.next ≡ nth l.places l.self.first l.counter) × IsBest l.places l.self.first l.counter (record { before = l.before; thread = l.best })
