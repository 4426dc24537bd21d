use Rattle.mcs_window.specs.stored.Opening.{AreEmptyRows}
use Rattle.mcs_window.proofs.opening.empty_rows.Given as goal

abbrev pub invariant-loop : goal.invariant-loop
invariant-loop l = AreEmptyRows l.counter l.rows.items
