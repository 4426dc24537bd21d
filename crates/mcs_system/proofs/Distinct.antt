-- Lists in which no two elements have the same key.
use Rattle.std.proofs.Common.{◌≡◌, ◌≢◌, ℕ, ◌+◌, ◌<◌, ◌≤◌, ◌⊎◌, inl, inr, List, length, take, get_or, Any, AllPairs, sym, ap, ◌∙◌, arith}
use Rattle.std.proofs.lemmas.Bool.{cases_lt}
use Rattle.std.proofs.lemmas.List.{get_or-take, get_or_default, length-take-le}

-- so far as the first n elements
abbrev pub DifferBelow : {A K : Type 0} → (A → K) → List A → ℕ → Type 0
DifferBelow {A} key xs n = (i j : ℕ) (d : A) → i < j → j < n → key (get_or xs i d) ≢ key (get_or xs j d)

-- an element of the first part stands at its place
place_in : {A K : Type 0} (key : A → K) (xs : List A) (n : ℕ) (x : A) → n < length xs → x ≡ get_or xs n x
    → (i : ℕ) (d : A) → i < n → key (get_or xs i d) ≡ key (get_or xs n d) → Any (λ y. key y ≡ key x) (take n xs)
place_in {A} key xs n x h e i d less same =
    let y : A = get_or xs i d in
    let here : get_or (take n xs) i y ≡ y = get_or-take n xs i y less ∙ get_or_default xs i y d (omega arith) in
    let within : i < length (take n xs) = rw (length-take-le n xs (omega arith)) less in
    let there : get_or xs n d ≡ x = get_or_default xs n d x h ∙ sym e in
    (i, y, within, here, same ∙ ap key there)

differ_at : {A K : Type 0} (key : A → K) (xs : List A) (n : ℕ) (x : A) → n < length xs → x ≡ get_or xs n x
    → ¬ Any (λ y. key y ≡ key x) (take n xs) → (i j : ℕ) (d : A) → i < j → j ≡ n → key (get_or xs i d) ≢ key (get_or xs j d)
differ_at key xs n x h e none i j d less at same =
    none (place_in key xs n x h e i d (omega arith) (same ∙ ap (λ k. key (get_or xs k d)) at))

pub differ_more : {A K : Type 0} (key : A → K) (xs : List A) (n : ℕ) (x : A) → n < length xs → x ≡ get_or xs n x
    → ¬ Any (λ y. key y ≡ key x) (take n xs) → DifferBelow key xs n → DifferBelow key xs (n + 1)
differ_more key xs n x h e none below i j d less within =
    by (cases_lt j n)
  where
    by : (j < n) ⊎ (n ≤ j) → key (get_or xs i d) ≢ key (get_or xs j d)
    by (inl before) = below i j d less before
    by (inr last) = differ_at key xs n x h e none i j d less (omega arith)

pub differ_not : {A K : Type 0} (key : A → K) (xs : List A) (n : ℕ) (x : A) → n < length xs → x ≡ get_or xs n x
    → Any (λ y. key y ≡ key x) (take n xs) → ¬ AllPairs (λ a b. key a ≢ key b) xs
differ_not key xs n x h e (k, y, within, here, same) all =
    let less : k < n = omega (arith, length-take-le n xs (omega arith)) in
    let there : get_or xs k x ≡ y = get_or_default xs k x y (omega arith) ∙ sym (get_or-take n xs k y less) ∙ here in
    all k n x less h (ap key there ∙ same ∙ ap key e)
