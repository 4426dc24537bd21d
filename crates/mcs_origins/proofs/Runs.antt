-- Runs of origins, and the stretches that they are kept as.
use Rattle.std.proofs.Common.{◌≡◌, ℕ, zero, suc, ◌+◌, ◌-◌, ◌*◌, ◌<◌, ◌⊎◌, inl, inr, List, [], ◌∷◌, ◌++◌, length, reverse, refl, sym, ap, ◌∙◌, arith, append-nil, append_assoc}
use Rattle.std.proofs.lemmas.List.{reverse-append}
use Rattle.mcs_origins.specs.declared.stretch.Stretch.{Stretch}
use Rattle.mcs_origins.specs.stored.Stretches.{run, all_of, flat}

one-step : (l s k : ℕ) → (l - s) - s * k ≡ l - s * suc k
one-step l s k = omega arith

run-append : (l s p n m : ℕ) → run l s (n + m) p ≡ run l s n p ++ run (l - s * n) s m p
run-append l s p zero m =
    let none : 0 + m ≡ m = omega arith in
    let here : l ≡ l - s * 0 = omega arith in
    ap (λ many. run l s many p) none ∙ ap (λ last. run last s m p) here
run-append l s p (suc n) m =
    let more : suc n + m ≡ suc (n + m) = omega arith in
    ap (λ many. run l s many p) more
    ∙ ap (λ rest. record { origin = l; places = p } ∷ rest) (run-append (l - s) s p n m ∙ ap (λ last. run (l - s) s n p ++ run last s m p) (one-step l s n))

pub length-run : (l s p n : ℕ) → length (run l s n p) ≡ n
length-run l s p zero = refl
length-run l s p (suc n) = ap suc (length-run (l - s) s p n)

-- the origin before so many
pub run-last : (l s p n : ℕ) → run l s (suc n) p ≡ run l s n p ++ record { origin = l - s * n; places = p } ∷ []
run-last l s p n = let more : suc n ≡ n + 1 = omega arith in ap (λ many. run l s many p) more ∙ run-append l s p n 1

-- one origin has no step
pub same-run : (l s t p n : ℕ) → (n ≡ 0) ⊎ (s ≡ t) → run l s (suc n) p ≡ run l t (suc n) p
same-run l s t p n (inl e) = ap (λ many. run l s (suc many) p) e ∙ sym (ap (λ many. run l t (suc many) p) e)
same-run l s t p n (inr e) = ap (λ step. run l step (suc n) p) e

-- a stretch is its top, and what is below
pub below-top : (a : Stretch) (more : ℕ) → more < a.more →
    all_of a ≡ all_of (record a { more = more }) ++ run (a.last - a.step * (more + 1)) a.step (suc (a.more - more - 1)) a.places
below-top a more h =
    let all : suc a.more ≡ suc more + suc (a.more - more - 1) = omega arith in
    let same : suc more ≡ more + 1 = omega arith in
    ap (λ many. run a.last a.step many a.places) all ∙ run-append a.last a.step a.places (suc more) (suc (a.more - more - 1))
    ∙ ap (λ k. all_of (record a { more = more }) ++ run (a.last - a.step * k) a.step (suc (a.more - more - 1)) a.places) same

-- two stretches that are one
pub one-of-two : (a b : Stretch) (step : ℕ) → a.places ≡ b.places → (b.more ≡ 0) ⊎ (b.step ≡ step) → (a.more ≡ 0) ⊎ (a.step ≡ step) → b.last - step * (b.more + 1) ≡ a.last →
    run b.last step (suc (a.more + b.more + 1)) a.places ≡ all_of b ++ all_of a
one-of-two a b step places later earlier here =
    let all : suc (a.more + b.more + 1) ≡ suc b.more + suc a.more = omega arith in
    let same : suc b.more ≡ b.more + 1 = omega arith in
    ap (λ many. run b.last step many a.places) all ∙ run-append b.last step a.places (suc b.more) (suc a.more)
    ∙ ap (λ places. run b.last step (suc b.more) places ++ run (b.last - step * suc b.more) step (suc a.more) a.places) places
    ∙ ap (λ first. first ++ run (b.last - step * suc b.more) step (suc a.more) a.places) (sym (same-run b.last b.step step b.places b.more later))
    ∙ ap (λ k. all_of b ++ run (b.last - step * k) step (suc a.more) a.places) same
    ∙ ap (λ last. all_of b ++ run last step (suc a.more) a.places) here
    ∙ ap (λ rest. all_of b ++ rest) (sym (same-run a.last a.step step a.places a.more earlier))

flat-append : (xs ys : List Stretch) → flat (xs ++ ys) ≡ flat ys ++ flat xs
flat-append [] ys = sym (append-nil (flat ys))
flat-append (x ∷ xs) ys = ap (λ rest. rest ++ all_of x) (flat-append xs ys) ∙ append_assoc (flat ys) (flat xs) (all_of x)

pub flat-last : (xs : List Stretch) (x : Stretch) → flat (xs ++ x ∷ []) ≡ all_of x ++ flat xs
flat-last xs x = flat-append xs (x ∷ [])

-- pieces that have the latest first
pub flat-reverse-first : (xs : List Stretch) (x : Stretch) → flat (reverse (x ∷ xs)) ≡ all_of x ++ flat (reverse xs)
flat-reverse-first xs x = ap flat (reverse-append (x ∷ []) xs) ∙ flat-last (reverse xs) x
