-- Lists of stretches, element by element.
use Rattle.std.proofs.Common.{◌≡◌, ℕ, zero, suc, ◌+◌, ◌-◌, ◌<◌, ◌≤◌, List, [], ◌∷◌, ◌++◌, length, take, drop, get_or, set, reverse, refl, sym, ap, ◌∙◌, arith, append_assoc, length-set}
use Rattle.std.proofs.Math.Seq.{drop-cons}
use Rattle.std.proofs.lemmas.List.{take_all, take_more, take_more_set}
use Rattle.mcs_origins.specs.declared.mark.Mark.{Mark}
use Rattle.mcs_origins.specs.declared.stretch.Stretch.{Stretch}
use Rattle.mcs_origins.specs.stored.Stretches.{all_of, flat, left}
use Rattle.mcs_origins.proofs.Runs.{flat-last, flat-reverse-first}

-- one stretch more
pub flat-more : (xs : List Stretch) (i : ℕ) (x : Stretch) → i < length xs → x ≡ get_or xs i x → flat (take (i + 1) xs) ≡ all_of x ++ flat (take i xs)
flat-more xs i x h is =
    ap flat (take_more xs i x h) ∙ flat-last (take i xs) (get_or xs i x) ∙ ap (λ y. all_of y ++ flat (take i xs)) (sym is)

-- the last stretch, and those before it
pub last-is : (xs : List Stretch) (n : ℕ) (x : Stretch) → length xs ≡ n + 1 → x ≡ get_or xs n x → xs ≡ take n xs ++ x ∷ []
last-is xs n x many is =
    let there : n < length xs = omega arith in
    let all : length xs ≤ n + 1 = omega arith in
    sym (take_all (n + 1) xs all) ∙ take_more xs n x there ∙ ap (λ y. take n xs ++ y ∷ []) (sym is)

last-put : (xs : List Stretch) (n : ℕ) (w : Stretch) → length xs ≡ n + 1 → set xs n w ≡ take n xs ++ w ∷ []
last-put xs n w many =
    let there : n < length xs = omega arith in
    let all : length (set xs n w) ≤ n + 1 = omega (arith, length-set xs n w) in
    sym (take_all (n + 1) (set xs n w) all) ∙ take_more_set xs n w there

-- the last stretch is made longer
pub flat-put : (xs : List Stretch) (n : ℕ) (x w : Stretch) (later : List Mark) → 0 < length xs → n ≡ length xs - 1 → x ≡ get_or xs n x → all_of w ≡ later ++ all_of x →
    flat (set xs n w) ≡ later ++ flat xs
flat-put xs n x w later some place is e =
    let many : length xs ≡ n + 1 = omega arith in
    ap flat (last-put xs n w many) ∙ flat-last (take n xs) w ∙ ap (λ a. a ++ flat (take n xs)) e ∙ append_assoc later (all_of x) (flat (take n xs))
    ∙ ap (λ rest. later ++ rest) (sym (ap flat (last-is xs n x many is) ∙ flat-last (take n xs) x))

-- all are left
pub left-all : (xs : List Stretch) (many : ℕ) (x : Stretch) → 0 < many → many ≡ length xs → x ≡ get_or xs (many - 1) x → left xs (record { many = many; top = x }) ≡ flat xs
left-all xs zero x some all is = absurd (omega arith)
left-all xs (suc k) x some all is =
    let one : suc k - 1 ≡ k = omega arith in
    let many : length xs ≡ k + 1 = omega arith in
    let there : x ≡ get_or xs k x = is ∙ ap (λ i. get_or xs i x) one in
    sym (ap flat (last-is xs k x many there) ∙ flat-last (take k xs) x)

-- what is left, copied
pub left-copied : (xs items : List Stretch) (many : ℕ) (x : Stretch) → 0 < many → items ≡ take (many - 1) xs ++ x ∷ [] → flat items ≡ left xs (record { many = many; top = x })
left-copied xs items zero x some is = absurd (omega arith)
left-copied xs items (suc k) x some is =
    let one : suc k - 1 ≡ k = omega arith in
    ap flat (is ∙ ap (λ n. take n xs ++ x ∷ []) one) ∙ flat-last (take k xs) x

-- one piece fewer
pub flat-fewer : (xs : List Stretch) (i : ℕ) (x : Stretch) → 0 < i → i ≤ length xs → x ≡ get_or xs (i - 1) x → flat (reverse (drop (i - 1) xs)) ≡ all_of x ++ flat (reverse (drop i xs))
flat-fewer xs i x some within is =
    let next : suc (i - 1) ≡ i = omega arith in
    let there : i - 1 < length xs = omega arith in
    ap (λ l. flat (reverse l)) (drop-cons xs (i - 1) x there) ∙ flat-reverse-first (drop (suc (i - 1)) xs) (get_or xs (i - 1) x)
    ∙ ap (λ y. all_of y ++ flat (reverse (drop (suc (i - 1)) xs))) (sym is) ∙ ap (λ n. all_of x ++ flat (reverse (drop n xs))) next

pub flat-drop : (xs : List Stretch) (i : ℕ) (x : Stretch) → 0 < i → i ≤ length xs → x ≡ get_or xs (i - 1) x → flat (drop (i - 1) xs) ≡ flat (drop i xs) ++ all_of x
flat-drop xs i x some within is =
    let next : suc (i - 1) ≡ i = omega arith in
    let there : i - 1 < length xs = omega arith in
    ap flat (drop-cons xs (i - 1) x there) ∙ ap (λ y. flat (drop (suc (i - 1)) xs) ++ all_of y) (sym is) ∙ ap (λ n. flat (drop n xs) ++ all_of x) next

-- no origins are no stretches
pub flat-none : (xs : List Stretch) → flat xs ≡ [] → length xs ≡ 0
flat-none [] e = refl
flat-none (x ∷ xs) e = absurd (no-more (flat xs) e)
  where
    no-more : (before : List Mark) → before ++ all_of x ≡ [] → ⊥
    no-more [] e = cc
    no-more (m ∷ ms) e = cc

pub none-flat : (xs : List Stretch) → length xs ≡ 0 → flat xs ≡ []
none-flat [] e = refl
none-flat (x ∷ xs) e = absurd (omega arith)
