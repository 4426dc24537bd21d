-- The numbers below n, and one more.
use Rattle.std.proofs.Common.{◌≡◌, ℕ, zero, suc, ◌+◌, ◌<◌, ◌≤◌, ◌⊎◌, inl, inr, Bool, true, false, ◌||◌, List, [], ◌∷◌, ◌++◌, map, Option, Some, None, cond, refl, sym, ap, ◌∙◌, append_assoc, arith}
use Rattle.std.specs.List.{filter, filter_map, list_any, range_with_len}
use Rattle.std.proofs.lemmas.Bool.{cases_lt}
use Rattle.std.proofs.lemmas.List.{map-append, map-id}
use Rattle.std.proofs.lemmas.List.Elements.{filter-append, filter_map-append}
use Rattle.std.proofs.lemmas.List.Folds.{list_any-append}
use Rattle.std.proofs.lemmas.List.FromFn.{map-range_with_len_more}
use Rattle.mcs_ever_told.specs.stored.Told.{if_some}

pub range-more : (n : ℕ) → range_with_len 0 (n + 1) ≡ range_with_len 0 n ++ n ∷ []
range-more n =
    sym (map-id (range_with_len 0 (n + 1))) ∙ map-range_with_len_more (λ (k : ℕ). k) 0 n n (omega arith)
    ∙ ap (λ (ks : List ℕ). ks ++ n ∷ []) (map-id (range_with_len 0 n))

or-false : (b : Bool) → (b || false) ≡ b
or-false true = refl
or-false false = refl

any-at : (p : ℕ → Bool) (n : ℕ) → list_any p (range_with_len 0 (n + 1)) ≡ (list_any p (range_with_len 0 n) || p n)
any-at p n =
    ap (list_any p) (range-more n) ∙ list_any-append p (range_with_len 0 n) (n ∷ [])
    ∙ ap (λ b. list_any p (range_with_len 0 n) || b) (or-false (p n))

-- if no number below n passes the test, and n fails it, none below n + 1 passes
pub none-more : (p : ℕ → Bool) (n : ℕ) → list_any p (range_with_len 0 n) ≡ false → p n ≡ false → list_any p (range_with_len 0 (n + 1)) ≡ false
none-more p n before now = any-at p n ∙ ap (λ b. b || p n) before ∙ now

or-true : (b : Bool) → (b || true) ≡ true
or-true true = refl
or-true false = refl

some-of : (p : ℕ → Bool) (k n : ℕ) → p k ≡ true → ((k < n) → list_any p (range_with_len 0 n) ≡ true) → (k < n) ⊎ (n ≤ k) → k < n + 1 →
    (list_any p (range_with_len 0 n) || p n) ≡ true
some-of p k n at before (inl less) l = ap (λ b. b || p n) (before less)
some-of p k n at before (inr more) l =
    let same : n ≡ k = omega (arith, l, more) in
    ap (λ b. list_any p (range_with_len 0 n) || b) (ap p same ∙ at) ∙ or-true (list_any p (range_with_len 0 n))

-- a number below passes the test
pub some-below : (p : ℕ → Bool) (k n : ℕ) → k < n → p k ≡ true → list_any p (range_with_len 0 n) ≡ true
some-below p k zero l at = absurd (omega (arith, l))
some-below p k (suc n) l at =
    let e : suc n ≡ n + 1 = omega arith in
    ap (λ (m : ℕ). list_any p (range_with_len 0 m)) e ∙ any-at p n
    ∙ some-of p k n at (λ less. some-below p k n less at) (cases_lt k n) (omega (arith, l))

kept-one : (p : ℕ → Bool) (n : ℕ) (b : Bool) → p n ≡ b → filter p (n ∷ []) ≡ cond b (n ∷ []) []
kept-one p n b e = ap (λ b. cond b (n ∷ []) []) e

-- the numbers that pass a test: one more, or none
module _ {T : Type 0} (p : ℕ → Bool) (f : ℕ → T) (n : ℕ) where
  map-one : (b : Bool) → map f (cond b (n ∷ []) []) ≡ cond b (f n ∷ []) []
  map-one true = refl
  map-one false = refl

  pub kept-next : map f (filter p (range_with_len 0 (n + 1))) ≡ map f (filter p (range_with_len 0 n)) ++ cond (p n) (f n ∷ []) []
  kept-next =
      ap (λ (ks : List ℕ). map f (filter p ks)) (range-more n)
      ∙ ap (map f) (filter-append p (range_with_len 0 n) (n ∷ []) ∙ ap (λ (ks : List ℕ). filter p (range_with_len 0 n) ++ ks) (kept-one p n (p n) refl))
      ∙ map-append f (filter p (range_with_len 0 n)) (cond (p n) (n ∷ []) [])
      ∙ ap (λ (xs : List T). map f (filter p (range_with_len 0 n)) ++ xs) (map-one (p n))

pub front : {T : Type 0} (xs ys : List T) → xs ++ ys ≡ [] → xs ≡ []
front [] ys e = refl
front (x ∷ xs) ys e = cc

pub back : {T : Type 0} (xs ys : List T) → xs ++ ys ≡ [] → ys ≡ []
back [] ys e = e
back (x ∷ xs) ys e = cc

-- the lines of one number more: another line, if it has one
module _ {T : Type 0} (tell : ℕ → Option T) where
  one : (n : ℕ) (o : Option T) → tell n ≡ o → filter_map tell (n ∷ []) ≡ if_some o
  one n None e = simp e
  one n (Some x) e = simp e

  pub told-more : (n : ℕ) → filter_map tell (range_with_len 0 (n + 1)) ≡ filter_map tell (range_with_len 0 n) ++ if_some (tell n)
  told-more n =
      ap (filter_map tell) (range-more n) ∙ filter_map-append tell (range_with_len 0 n) (n ∷ [])
      ∙ ap (λ (xs : List T). filter_map tell (range_with_len 0 n) ++ xs) (one n (tell n) refl)

  pub lines-more : (n : ℕ) (first lines later : List T) (line : Option T) → lines ≡ first ++ filter_map tell (range_with_len 0 n) →
      later ≡ lines ++ if_some line → line ≡ tell n → later ≡ first ++ filter_map tell (range_with_len 0 (n + 1))
  lines-more n first lines later line before more is =
      more ∙ ap (λ (l : Option T). lines ++ if_some l) is ∙ ap (λ (xs : List T). xs ++ if_some (tell n)) before
      ∙ append_assoc first (filter_map tell (range_with_len 0 n)) (if_some (tell n))
      ∙ ap (λ (xs : List T). first ++ xs) (sym (told-more n))

  nothing : (o : Option T) → if_some o ≡ [] → o ≡ None
  nothing None e = refl
  nothing (Some x) e = cc

  none-of : (n k : ℕ) → k < n + 1 → ((k < n) → tell k ≡ None) → if_some (tell n) ≡ [] → (k < n) ⊎ (n ≤ k) → tell k ≡ None
  none-of n k l before now (inl less) = before less
  none-of n k l before now (inr more) =
      let same : k ≡ n = omega (arith, l, more) in
      ap tell same ∙ nothing (tell n) now

  -- an empty list of lines has no line for any number
  pub none-told : (n : ℕ) → filter_map tell (range_with_len 0 n) ≡ [] → (k : ℕ) → k < n → tell k ≡ None
  none-told zero e k l = absurd (omega (arith, l))
  none-told (suc n) e k l =
      let s : suc n ≡ n + 1 = omega arith in
      let parts : filter_map tell (range_with_len 0 n) ++ if_some (tell n) ≡ [] =
      sym (told-more n) ∙ ap (λ (m : ℕ). filter_map tell (range_with_len 0 m)) (sym s) ∙ e in
      none-of n k (omega (arith, l)) (λ less. none-told n (front (filter_map tell (range_with_len 0 n)) (if_some (tell n)) parts) k less)
      (back (filter_map tell (range_with_len 0 n)) (if_some (tell n)) parts) (cases_lt k n)
