-- One latency more.
use Rattle.std.proofs.Common.{◌≡◌, ℕ, suc, ◌<◌, min, List, [], ◌∷◌, ◌++◌, length, get_or, drop, map, Some, drop-cons, refl, sym, ap, ◌∙◌, arith}
use Rattle.std.specs.Prelude.{fold, unwrap_or}
use Rattle.mcs_chain.specs.Figures.{least}

fold-min-out : (xs : List ℕ) (a b : ℕ) → fold min (min a b) xs ≡ min a (fold min b xs)
fold-min-out [] a b = refl
fold-min-out (x ∷ xs) a b =
    let e : min (min a b) x ≡ min a (min b x) = omega arith in
    ap (λ m. fold min m xs) e ∙ fold-min-out xs a (min b x)

pub least-more : (v x : ℕ) (latencies : List ℕ) → least latencies ≡ Some v → Some (min v x) ≡ least (x ∷ latencies)
least-more v x [] e = absurd (cc)
least-more v x (y ∷ ys) e =
    let is : fold min y ys ≡ v = ap (λ o. unwrap_or o 0) e in
    ap Some (omega (arith, fold-min-out ys x y))

-- of the origins from the k-th on the k-th comes first, and then those from the i-th on
pub one-first : (f : ℕ → ℕ) (origins latencies : List ℕ) (k i x : ℕ) → k < length origins → suc k ≡ i → x ≡ get_or origins k x
    → f x ∷ map f (drop i origins) ++ latencies ≡ map f (drop k origins) ++ latencies
one-first f origins latencies k i x h e g =
    sym
    (ap (λ s. map f s ++ latencies) (drop-cons origins k x h)
    ∙ ap (λ y. f y ∷ map f (drop (suc k) origins) ++ latencies) (sym g)
    ∙ ap (λ j. f x ∷ map f (drop j origins) ++ latencies) e)
