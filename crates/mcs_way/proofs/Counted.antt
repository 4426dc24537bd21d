-- One more answer is counted.
use Rattle.std.proofs.Common.{◌≡◌, ℕ, zero, suc, List, [], ◌∷◌, ◌++◌, length, Some, refl, arith}
use Rattle.std.specs.Prelude.{slice_get}
use Rattle.mcs_chain.specs.declared.answer.Answer.{Answer}

get-last : (answers : List Answer) (a : Answer) (i : ℕ) → i ≡ length answers → slice_get (answers ++ a ∷ []) i ≡ Some a
get-last [] a zero e = refl
get-last [] a (suc i) e = absurd (omega arith)
get-last (x ∷ answers) a zero e = absurd (omega arith)
get-last (x ∷ answers) a (suc i) e = get-last answers a i (omega arith)

get-other : (answers : List Answer) (a : Answer) (i : ℕ) → (i ≡ length answers → ⊥) → slice_get (answers ++ a ∷ []) i ≡ slice_get answers i
get-other [] a zero e = absurd (e refl)
get-other [] a (suc i) e = refl
get-other (x ∷ answers) a zero e = refl
get-other (x ∷ answers) a (suc i) e = get-other answers a i (λ h. e (omega arith))
