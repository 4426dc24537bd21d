-- What each moment from some moment on adds it adds a period later, too: counts that grow by as much
-- in each period, and lists of which no element is new after the first period.
use Rattle.std.proofs.Common.{◌≡◌, ◌∙◌, ℕ, zero, suc, ◌+◌, ◌-◌, ◌*◌, ◌<◌, ◌≤◌, max, Bool, true, false, List, [], ◌∷◌, ◌++◌, length, Option, Some, None, refl, sym, ap, subst, append_assoc, arith}
use Rattle.std.specs.Prelude.{fold, nat_le, nat_lt}
use Rattle.std.specs.List.{AllByRecursion}
use Rattle.std.proofs.Math.Nat.{suc-mul}
use Rattle.std.proofs.lemmas.Bool.Decides.{nat_tests}
use Rattle.std.proofs.lemmas.List.{length-append}
use Rattle.mcs_table.specs.Rounds.{greatest}
use Rattle.mcs_ever.specs.Recurs.{Shifts}
use Rattle.mcs_ever_found.specs.laws.Course.{is_at_most}
use Rattle.mcs_ever_chain.specs.laws.Repeats.{IsAddedInEach}

module _ (shifts : Shifts) (from : ℕ) (count new : ℕ → ℕ) (grows : (t : ℕ) → count (suc t) ≡ new t + count t)
    (again : (t : ℕ) → from ≤ t → new (t + shifts.by) ≡ new t) where
  abbrev d : ℕ
  d = shifts.by

  at-least : (n : ℕ) → count from ≤ count (from + n)
  at-least zero =
      let e : from ≡ from + 0 = omega arith in
      let P : ℕ → Type 0 = λ t. count from ≤ count t in
      subst P e (omega arith)
  at-least (suc n) =
      let e : suc (from + n) ≡ from + suc n = omega arith in
      let P : ℕ → Type 0 = λ t. count from ≤ count t in
      let more = grows (from + n) in
      let before = at-least n in
      subst P e (omega (arith, more, before))

  abbrev IsAdded : ℕ → Type 0
  IsAdded t = count (t + d) ≡ count t + (count (from + d) - count from)

  added-from : (n : ℕ) → IsAdded (from + n)
  added-from zero =
      let e : from ≡ from + 0 = omega arith in
      let few = at-least d in
      let here : IsAdded from = omega (arith, few) in
      subst IsAdded e here
  added-from (suc n) =
      let e : suc (from + n) ≡ from + suc n = omega arith in
      let f : suc (from + n + d) ≡ suc (from + n) + d = omega arith in
      let one = grows (from + n) in
      let other = grows (from + n + d) in
      let same = again (from + n) (omega arith) in
      let before = added-from n in
      let after : count (suc (from + n + d)) ≡ count (suc (from + n)) + (count (from + d) - count from) = omega (arith, one, other, same, before) in
      subst IsAdded e (ap count (sym f) ∙ after)

  pub added : IsAddedInEach shifts from count
  added k =
      let e : k + 1 ≡ suc k = omega arith in
      let f : from + (k * d + d) ≡ from + k * d + d = omega arith in
      ap count (ap (λ j. from + j * d) e ∙ ap (λ m. from + m) (suc-mul k d) ∙ f) ∙ added-from (k * d)

-- the greatest of numbers with one more
abbrev greater : ℕ → Option ℕ → ℕ
greater x None = x
greater x (Some most) = max x most

fold-more : (a b : ℕ) (xs : List ℕ) → fold max (max a b) xs ≡ max a (fold max b xs)
fold-more a b [] = refl
fold-more a b (x ∷ xs) =
    let e : max (max a b) x ≡ max a (max b x) = omega arith in
    ap (λ m. fold max m xs) e ∙ fold-more a (max b x) xs

greatest-more : (x : ℕ) (xs : List ℕ) → greatest (x ∷ xs) ≡ Some (greater x (greatest xs))
greatest-more x [] = refl
greatest-more x (y ∷ ys) = ap Some (fold-more x y ys)

self : (n : ℕ) → nat_le n n ≡ true
self n = grind (arith, nat_tests)

at-most-more : (n a b : ℕ) → nat_le n a ≡ true → a ≤ b → nat_le n b ≡ true
at-most-more n a b h l = grind (arith, nat_tests)

never : false ≡ true → ⊥
never e = cc

-- no number is above the greatest
abbrev pub AreAtMost : Option ℕ → List ℕ → Type 0
AreAtMost most xs = AllByRecursion (λ x. is_at_most most x ≡ true) xs

keeps : (x y : ℕ) (most : Option ℕ) → is_at_most most y ≡ true → is_at_most (Some (greater x most)) y ≡ true
keeps x y None h = absurd (never h)
keeps x y (Some most) h = at-most-more y most (max x most) h (omega arith)

keeps-all : (x : ℕ) (most : Option ℕ) (ys : List ℕ) → AreAtMost most ys → AreAtMost (Some (greater x most)) ys
keeps-all x most [] h = tt
keeps-all x most (y ∷ ys) h = (keeps x y most h.0, keeps-all x most ys h.1)

reaches : (x : ℕ) (most : Option ℕ) → is_at_most (Some (greater x most)) x ≡ true
reaches x None = self x
reaches x (Some most) = at-most-more x x (max x most) (self x) (omega arith)

pub at-most-greatest : (xs : List ℕ) → AreAtMost (greatest xs) xs
at-most-greatest [] = tt
at-most-greatest (x ∷ xs) =
    let P : Option ℕ → Type 0 = λ most. AreAtMost most (x ∷ xs) in
    subst P (sym (greatest-more x xs)) (reaches x (greatest xs), keeps-all x (greatest xs) xs (at-most-greatest xs))

-- more numbers of which none is above the greatest
pub greatest-same : (xs ys : List ℕ) → AreAtMost (greatest ys) xs → greatest (xs ++ ys) ≡ greatest ys
greatest-same [] ys h = refl
greatest-same (x ∷ xs) ys h =
    greatest-more x (xs ++ ys) ∙ ap (λ most. Some (greater x most)) (greatest-same xs ys h.1) ∙ by (greatest ys) h.0
  where
    by : (most : Option ℕ) → is_at_most most x ≡ true → Some (greater x most) ≡ most
    by None e = absurd (never e)
    by (Some most) e =
        let l : x ≤ most = grind (arith, nat_tests) in
        let f : max x most ≡ most = omega (arith, l) in
        ap Some f

both-all : (Q : ℕ → Type 0) (xs ys : List ℕ) → AllByRecursion Q xs → AllByRecursion Q ys → AllByRecursion Q (xs ++ ys)
both-all Q [] ys g h = h
both-all Q (x ∷ xs) ys g h = (g.0, both-all Q xs ys g.1 h)

first-all : (Q : ℕ → Type 0) (xs ys : List ℕ) → AllByRecursion Q (xs ++ ys) → AllByRecursion Q xs
first-all Q [] ys h = tt
first-all Q (x ∷ xs) ys h = (h.0, first-all Q xs ys h.1)

second-all : (Q : ℕ → Type 0) (xs ys : List ℕ) → AllByRecursion Q (xs ++ ys) → AllByRecursion Q ys
second-all Q [] ys h = h
second-all Q (x ∷ xs) ys h = second-all Q xs ys h.1

-- a list to which each moment adds
module _ (shifts : Shifts) (from : ℕ) (some : 1 ≤ shifts.by) (list new : ℕ → List ℕ) (empty : list 0 ≡ [])
    (grows : (t : ℕ) → list (suc t) ≡ new t ++ list t) (again : (t : ℕ) → from ≤ t → new (t + shifts.by) ≡ new t) where
  abbrev by : ℕ
  by = shifts.by

  pub length-added : IsAddedInEach shifts from (λ t. length (list t))
  length-added =
      added shifts from (λ t. length (list t)) (λ t. length (new t)) (λ t. ap length (grows t) ∙ length-append (new t) (list t)) (λ t l. ap length (again t l))

  -- what has been added at one moment is there at each later one
  pub suffix : (m n : ℕ) → (xs : List ℕ) × (list (m + n) ≡ xs ++ list m)
  suffix m zero = let e : m + 0 ≡ m = omega arith in ([], ap list e)
  suffix m (suc n) =
      let rest = suffix m n in
      let e : m + suc n ≡ suc (m + n) = omega arith in (
        new (m + n) ++ rest.0,
        ap list e ∙ grows (m + n) ∙ ap (λ ys. new (m + n) ++ ys) rest.1 ∙ sym (append_assoc (new (m + n)) rest.0 (list m)),
      )

  -- what all elements have before the end of the first period all have for ever
  module _ (Q : ℕ → Type 0) (first : AllByRecursion Q (list (from + shifts.by))) where
    early : (n t : ℕ) → t < n → AllByRecursion Q (list n) → AllByRecursion Q (new t)
    early zero t l h = absurd (omega (arith, l))
    early (suc n) t l h = at (λ less. early n t less (second-all Q (new n) (list n) both)) (nat_lt t n) refl
      where
        both : AllByRecursion Q (new n ++ list n)
        both = let P : List ℕ → Type 0 = λ xs. AllByRecursion Q xs in subst P (grows n) h

        at : (t < n → AllByRecursion Q (new t)) → (b : Bool) → nat_lt t n ≡ b → AllByRecursion Q (new t)
        at i true e = i (grind (arith, nat_tests))
        at i false e =
            let m : n ≤ t = grind (arith, nat_tests) in
            let same : n ≡ t = omega (arith, l, m) in
            let P : ℕ → Type 0 = λ s. AllByRecursion Q (new s) in
            subst P same (first-all Q (new n) (list n) both)

    below : (n t : ℕ) → t < n → AllByRecursion Q (new t)
    below zero t l = absurd (omega (arith, l))
    below (suc n) t l = at (below n (t - by)) (nat_lt t (from + by)) refl
      where
        at : (t - by < n → AllByRecursion Q (new (t - by))) → (b : Bool) → nat_lt t (from + by) ≡ b → AllByRecursion Q (new t)
        at i true e = early (from + by) t (grind (arith, nat_tests)) first
        at i false e =
            let m : from + by ≤ t = grind (arith, nat_tests) in
            let f : t - by + by ≡ t = omega (arith, m) in
            let P : ℕ → Type 0 = λ s. AllByRecursion Q (new s) in
            let R : List ℕ → Type 0 = λ xs. AllByRecursion Q xs in
            subst P f (subst R (sym (again (t - by) (omega (arith, m)))) (i (omega (arith, l, m, some))))

    pub all-forever : (t : ℕ) → AllByRecursion Q (list t)
    all-forever zero = let P : List ℕ → Type 0 = λ xs. AllByRecursion Q xs in subst P (sym empty) tt
    all-forever (suc t) =
        let P : List ℕ → Type 0 = λ xs. AllByRecursion Q xs in
        subst P (sym (grows t)) (both-all Q (new t) (list t) (below (suc t) t (omega arith)) (all-forever t))

  pub none-longer : (t : ℕ) → AreAtMost (greatest (list (from + shifts.by))) (list t)
  none-longer t =
      all-forever (λ x. is_at_most (greatest (list (from + by))) x ≡ true) (at-most-greatest (list (from + by))) t

  pub greatest-forever : (t : ℕ) → from + shifts.by ≤ t → greatest (list t) ≡ greatest (list (from + shifts.by))
  greatest-forever t l =
      let more = suffix (from + by) (t - (from + by)) in
      let e : from + by + (t - (from + by)) ≡ t = omega (arith, l) in
      let is : list t ≡ more.0 ++ list (from + by) = ap list (sym e) ∙ more.1 in
      let P : List ℕ → Type 0 = λ xs. AreAtMost (greatest (list (from + by))) xs in
      ap greatest is
      ∙ greatest-same more.0 (list (from + by))
      (first-all (λ x. is_at_most (greatest (list (from + by))) x ≡ true) more.0 (list (from + by)) (subst P is (none-longer t)))

  -- and a list without elements stays so
  pub none-forever : length (list (from + shifts.by)) ≡ 0 → (t : ℕ) → length (list t) ≡ 0
  none-forever none t = nothing (list t) (all-forever (λ x. ⊥) (empties (list (from + by)) none) t)
    where
      empties : (xs : List ℕ) → length xs ≡ 0 → AllByRecursion (λ x. ⊥) xs
      empties [] e = tt
      empties (x ∷ xs) e = absurd (omega (arith, e))

      nothing : (xs : List ℕ) → AllByRecursion (λ x. ⊥) xs → length xs ≡ 0
      nothing [] h = refl
      nothing (x ∷ xs) h = absurd h.0
