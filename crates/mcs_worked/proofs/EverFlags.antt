-- The flags of rows, by hand. In the system of `WorkedFindings` each signal but the first is lost.
-- It has one thread and one notification.
use Rattle.std.specs.Prelude.{◌≡◌, true, false, [], ◌∷◌, Some, refl}
use Rattle.mcs_ticks.specs.declared.row.What.TheVariants as row
use Rattle.mcs_ticks.specs.declared.row.Why.TheVariants as why
use Rattle.mcs_worked.proofs.EverFindings.{signals}
use Rattle.mcs_ever_found.specs.Doings.{doings_of}

-- chosen and stopped, the thread ends no round
chosen : doings_of signals (row.Release 0 ∷ row.Run 0 ∷ row.Stop 0 why.Spent 2 (Some 4) ∷ []) ≡ record { ended = false ∷ []; taken = false ∷ [] }
chosen = refl

-- a signal that is held takes no word
signalled : doings_of signals (row.Signal 0 0 1 ∷ row.Hold 0 1 ∷ []) ≡ record { ended = false ∷ []; taken = false ∷ [] }
signalled = refl

-- a word is taken at a wait that finds it; a thread that a signal wakes takes none
took : doings_of signals (row.Got 0 0 1 ∷ []) ≡ record { ended = false ∷ []; taken = true ∷ [] }
took = refl

woke : doings_of signals (row.Wake 0 0 1 (Some 4) ∷ []) ≡ record { ended = false ∷ []; taken = false ∷ [] }
woke = refl

-- a round ends; a row of another number sets no flag
ended : doings_of signals (row.Round 0 1 3 ∷ row.Round 1 1 3 ∷ row.Got 1 1 1 ∷ row.Hold 1 1 ∷ []) ≡ record { ended = true ∷ []; taken = false ∷ [] }
ended = refl
