-- Sums that stop at the greatest number.
use Rattle.std.proofs.Common.{◌≡◌, ℕ, ◌+◌, List, [], ◌∷◌, fold, sum, ap, ◌∙◌, arith}
use Rattle.std.proofs.lemmas.List.Sums.{sum_by-cons}
use Rattle.mcs_ticks.specs.Capped.{capped}

fold_from : (xs : List ℕ) (n : ℕ) → fold (λ total x. capped (total + x)) (capped n) xs ≡ capped (n + sum xs)
fold_from [] n = omega arith
fold_from (x ∷ xs) n =
    let step : capped (capped n + x) ≡ capped (n + x) = omega arith in
    ap (λ m. fold (λ total x. capped (total + x)) m xs) step ∙ fold_from xs (n + x) ∙ ap capped (omega (arith, sum_by-cons (λ y. y) x xs))

pub fold_capped : (xs : List ℕ) → fold (λ total x. capped (total + x)) 0 xs ≡ capped (sum xs)
fold_capped xs = fold_from xs 0 ∙ ap capped (omega arith)
