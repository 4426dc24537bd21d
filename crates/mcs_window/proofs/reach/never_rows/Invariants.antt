use Rattle.mcs_window.proofs.Reaching.{AreNever}
use Rattle.mcs_window.proofs.reach.never_rows.Given as goal

abbrev pub invariant-loop : goal.invariant-loop
invariant-loop l = AreNever l.counter l.rows.items
