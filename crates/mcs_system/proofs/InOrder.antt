-- Lists in which each element has a relation to each later one.
use Rattle.std.proofs.Common.{◌≡◌, ℕ, ◌+◌, ◌<◌, ◌≤◌, ◌⊎◌, inl, inr, List, length, take, get_or, All, AllPairs, sym, ◌∙◌, arith}
use Rattle.std.proofs.lemmas.Bool.{cases_lt}
use Rattle.std.proofs.lemmas.List.{get_or-take, get_or_default, length-take-le}

-- so far as the first n elements
abbrev pub OrderedBelow : {A : Type 0} → (A → A → Type 0) → List A → ℕ → Type 0
OrderedBelow {A} R xs n = (i j : ℕ) (d : A) → i < j → j < n → R (get_or xs i d) (get_or xs j d)

pub ordered_more : {A : Type 0} (R : A → A → Type 0) (xs : List A) (n : ℕ) (x : A) → n < length xs → x ≡ get_or xs n x
    → All (λ y. R y x) (take n xs) → OrderedBelow R xs n → OrderedBelow R xs (n + 1)
ordered_more {A} R xs n x h e all below i j d less within = by (cases_lt j n)
  where
    by : (j < n) ⊎ (n ≤ j) → R (get_or xs i d) (get_or xs j d)
    by (inl before) = below i j d less before
    by (inr last) =
        let at : j ≡ n = omega arith in
        let there : get_or xs n d ≡ x = get_or_default xs n d x h ∙ sym e in
        let here : get_or (take n xs) i d ≡ get_or xs i d = get_or-take n xs i d (omega arith) in
        let fact : R (get_or (take n xs) i d) x = all i d (rw (length-take-le n xs (omega arith)) (omega arith)) in
        rw (at, there, sym here) fact

pub ordered_not : {A : Type 0} (R : A → A → Type 0) (xs : List A) (n : ℕ) (x : A) → n < length xs → x ≡ get_or xs n x
    → ¬ All (λ y. R y x) (take n xs) → ¬ AllPairs R xs
ordered_not {A} R xs n x h e none all = none each
  where
    each : All (λ y. R y x) (take n xs)
    each i d within =
        let less : i < n = omega (arith, within, length-take-le n xs (omega arith)) in
        let there : get_or xs n d ≡ x = get_or_default xs n d x h ∙ sym e in
        let here : get_or (take n xs) i d ≡ get_or xs i d = get_or-take n xs i d less in
        let fact : R (get_or xs i d) (get_or xs n d) = all i n d less h in
        rw here (rw there at fact)
