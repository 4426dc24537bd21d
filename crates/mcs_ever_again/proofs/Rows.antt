-- The rows of a period, turn by turn.
use Rattle.std.proofs.Common.{◌≡◌, ℕ, zero, suc, ◌+◌, ◌-◌, ◌<◌, ◌≤◌, inl, inr, List, [], ◌∷◌, ◌++◌, subst, arith}
use Rattle.std.specs.Prelude.{flat_map}
use Rattle.std.specs.List.{AllByRecursion, range_with_len}
use Rattle.std.proofs.lemmas.Bool.{cases_lt}
use Rattle.mcs_ticks.specs.declared.row.What.{What}
use Rattle.mcs_system.specs.System.{System}
use Rattle.mcs_core.specs.Clock.{turn_of}
use Rattle.mcs_ever_again.specs.Period.{told_at, told_between}

all-front : (P : What → Type 0) (xs ys : List What) → AllByRecursion P (xs ++ ys) → AllByRecursion P xs
all-front P [] ys all = tt
all-front P (x ∷ xs) ys all = (all.0, all-front P xs ys all.1)

all-back : (P : What → Type 0) (xs ys : List What) → AllByRecursion P (xs ++ ys) → AllByRecursion P ys
all-back P [] ys all = all
all-back P (x ∷ xs) ys all = all-back P xs ys all.1

-- what holds of all rows holds of those of each part
all-part : (P : What → Type 0) (f : ℕ → List What) (a n k : ℕ) → a ≤ k → k < a + n → AllByRecursion P (flat_map f (range_with_len a n)) → AllByRecursion P (f k)
all-part P f a zero k from within all = absurd (omega (arith, from, within))
all-part P f a (suc n) k from within all =
    elim (cases_lt a k) [
      | inl l ↦ all-part P f (a + 1) n k (omega (arith, l)) (omega (arith, within)) (all-back P (f a) (flat_map f (range_with_len (a + 1) n)) all)
      | inr l ↦
          let here : a ≡ k = omega (arith, l, from) in
          subst (λ (i : ℕ). AllByRecursion P (f i)) here (all-front P (f a) (flat_map f (range_with_len (a + 1) n)) all)
    ]

pub all-turn : (system : System) (P : What → Type 0) (from past t c : ℕ) → AllByRecursion P (told_between system from past) → from ≤ t → t < past →
    c < system.cores → AllByRecursion P (turn_of system c t).rows
all-turn system P from past t c all since within known =
    all-part P (λ c. (turn_of system c t).rows) 0 system.cores c (omega arith) (omega (arith, known))
    (all-part P (told_at system) from (past - from) t since (omega (arith, within, since)) all)

pub all-apply : (P Q : What → Type 0) (xs : List What) → AllByRecursion (λ x. P x → Q x) xs → AllByRecursion P xs → AllByRecursion Q xs
all-apply P Q [] f all = tt
all-apply P Q (x ∷ xs) f all = (f.0 all.0, all-apply P Q xs f.1 all.1)
