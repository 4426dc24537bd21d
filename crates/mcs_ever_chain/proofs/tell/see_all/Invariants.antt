use Rattle.std.proofs.Common.{◌≡◌, ◌+◌, ℕ}
use Rattle.mcs_system.specs.System.{System}
use Rattle.mcs_ever_search.specs.Together.{rows_at}
use Rattle.mcs_ever_chain.specs.stored.Looks.{AreLooks, AreLooksTo}
use Rattle.mcs_ever_chain.proofs.tell.see_all.Given as goal

abbrev pub invariant-loop-i : goal.invariant-loop-i
invariant-loop-i l =
    (system : System) (t : ℕ) → l.rows ≡ rows_at system t → AreLooks system t t l.initial.looks → AreLooksTo system t t (t + 1) t l.looks l.i
