-- Sets of origins, each origin later by the same number of ticks: what is made of them is later, too.
use Rattle.std.proofs.Common.{◌≡◌, ◌∙◌, ℕ, zero, suc, ◌+◌, ◌<◌, ◌⊎◌, inl, inr, Bool, true, false, not, eqb, ltb, ◌==◌, ◌&&◌, ◌||◌, List, [], ◌∷◌, length, get_or, set, map, filter, refl, sym, ap, ap₂, arith, ltb-true, lt-ltb, eqb-true, eq-eqb}
use Rattle.std.specs.Prelude.{nat_lt, if◌then◌else◌}
use Rattle.std.proofs.lemmas.Bool.{cases_eq}
use Rattle.std.proofs.lemmas.List.{get_or-set_same, get_or-set_other}
use Rattle.mcs_origins.specs.declared.mark.Mark.{Mark}
use Rattle.mcs_origins.specs.declared.taking.Taking.{Taking}
use Rattle.mcs_origins.specs.declared.taking.Taking.TheVariants.{First, Later}
use Rattle.mcs_origins.specs.Sets.{at_places, both, given, is_at, is_one_of, join, keep_at, put_at, taken, without}
use Rattle.mcs_ever_chain.specs.Later.{later_mark, later_origins, later_set}

-- numbers that are later by as much are in the same order
truth : (a b : Bool) → (a ≡ true → b ≡ true) → (b ≡ true → a ≡ true) → a ≡ b
truth true true f g = refl
truth true false f g = sym (f refl)
truth false true f g = g refl
truth false false f g = refl

lt-later : (by a b : ℕ) → nat_lt (a + by) (b + by) ≡ nat_lt a b
lt-later by a b =
    truth (ltb (a + by) (b + by)) (ltb a b) (λ e. lt-ltb a b (omega (arith, ltb-true (a + by) (b + by) e)))
    (λ e. lt-ltb (a + by) (b + by) (omega (arith, ltb-true a b e)))

pub eq-later : (by a b : ℕ) → ((a + by) == (b + by)) ≡ (a == b)
eq-later by a b =
    truth (eqb (a + by) (b + by)) (eqb a b) (λ e. eq-eqb a b (omega (arith, eqb-true (a + by) (b + by) e)))
    (λ e. eq-eqb (a + by) (b + by) (ap (λ n. n + by) (eqb-true a b e)))

-- what a filter passes of elements that were made of others
choose : {A B : Type 0} (f : A → B) (b : Bool) (x : A) (xs : List A) (y : List B) → y ≡ map f xs
    → (if b then f x ∷ y else y) ≡ map f (if b then x ∷ xs else xs)
choose f true x xs y e = ap (λ l. f x ∷ l) e
choose f false x xs y e = e

pub filter-made : {A B : Type 0} (f : A → B) (p : B → Bool) (q : A → Bool) → ((x : A) → p (f x) ≡ q x) → (xs : List A)
    → filter p (map f xs) ≡ map f (filter q xs)
filter-made f p q h [] = refl
filter-made f p q h (x ∷ xs) =
    ap (λ b. if b then f x ∷ filter p (map f xs) else filter p (map f xs)) (h x)
    ∙ choose f (q x) x (filter q xs) (filter p (map f xs)) (filter-made f p q h xs)

-- elements that are made in two ways
pub made-twice : {A B C D : Type 0} (f : B → D) (g : A → B) (f' : A → C) (g' : C → D) → ((x : A) → f (g x) ≡ g' (f' x)) → (xs : List A)
    → map f (map g xs) ≡ map g' (map f' xs)
made-twice f g f' g' h [] = refl
made-twice f g f' g' h (x ∷ xs) = ap₂ (λ y ys. y ∷ ys) (h x) (made-twice f g f' g' h xs)

-- a filter behind another one
pick-both : {A : Type 0} (p : A → Bool) (b : Bool) (x : A) (xs ys : List A) → filter p xs ≡ ys
    → filter p (if b then x ∷ xs else xs) ≡ (if b && p x then x ∷ ys else ys)
pick-both p true x xs ys e = ap (λ l. if p x then x ∷ l else l) e
pick-both p false x xs ys e = e

pub filter-both : {A : Type 0} (p q : A → Bool) → (xs : List A) → filter p (filter q xs) ≡ filter (λ x. q x && p x) xs
filter-both p q [] = refl
filter-both p q (x ∷ xs) = pick-both p (q x) x (filter q xs) (filter (λ y. q y && p y) xs) (filter-both p q xs)

pub filter-alike : {A : Type 0} (p q : A → Bool) → ((x : A) → p x ≡ q x) → (xs : List A) → filter p xs ≡ filter q xs
filter-alike p q h [] = refl
filter-alike p q h (x ∷ xs) = ap₂ (λ b l. if b then x ∷ l else l) (h x) (filter-alike p q h xs)

and-swap : (a b : Bool) → (a && b) ≡ (b && a)
and-swap true true = refl
and-swap true false = refl
and-swap false true = refl
and-swap false false = refl

pub filter-swap : {A : Type 0} (p q : A → Bool) (xs : List A) → filter p (filter q xs) ≡ filter q (filter p xs)
filter-swap p q xs =
    filter-both p q xs ∙ filter-alike (λ x. q x && p x) (λ x. p x && q x) (λ x. and-swap (q x) (p x)) xs ∙ sym (filter-both q p xs)

within : (p q : Bool) → (p ≡ true → q ≡ true) → (q && p) ≡ p
within true q h = ap (λ b. b && true) (h refl)
within false true h = refl
within false false h = refl

-- a filter that passes less than another one
pub filter-less : {A : Type 0} (p q : A → Bool) → ((x : A) → p x ≡ true → q x ≡ true) → (xs : List A) → filter p xs ≡ filter p (filter q xs)
filter-less p q h xs = sym (filter-both p q xs ∙ filter-alike (λ x. q x && p x) p (λ x. within (p x) (q x) (h x)) xs)

-- a list at a place, after a change at one, if it was later at each place
pub set-later : {A : Type 0} (f : A → A) (d : A) (before after : List A) (i : ℕ) (x y : A) → i < length before → i < length after → y ≡ f x
    → (j : ℕ) → get_or after j d ≡ f (get_or before j d) → get_or (set after i y) j d ≡ f (get_or (set before i x) j d)
set-later f d before after i x y l m e j h = by (cases_eq j i)
  where
    by : (j ≡ i) ⊎ (j ≡ i → ⊥) → get_or (set after i y) j d ≡ f (get_or (set before i x) j d)
    by (inl same) =
        ap (λ k. get_or (set after i y) k d) same ∙ get_or-set_same after i y d m ∙ e
        ∙ sym (ap f (ap (λ k. get_or (set before i x) k d) same ∙ get_or-set_same before i x d l))
    by (inr differ) = get_or-set_other after i j y d differ ∙ h ∙ sym (ap f (get_or-set_other before i j x d differ))

-- an element that is made of the one at its place, also past the end
pub get-made : {A B : Type 0} (f : A → B) (d : A) (e : B) → f d ≡ e → (xs : List A) (i : ℕ) → get_or (map f xs) i e ≡ f (get_or xs i d)
get-made f d e h [] i = sym h
get-made f d e h (x ∷ xs) zero = refl
get-made f d e h (x ∷ xs) (suc i) = get-made f d e h xs i

-- origins that were answered
pub one-of-later : (by : ℕ) (origins : List ℕ) (origin : ℕ) → is_one_of (later_origins by origins) (origin + by) ≡ is_one_of origins origin
one-of-later by [] origin = refl
one-of-later by (other ∷ origins) origin = ap₂ (λ a b. a || b) (eq-later by other origin) (one-of-later by origins origin)

pub none-of-later : (by : ℕ) (origins : List ℕ) (origin : ℕ)
    → not (is_one_of (later_origins by origins) (origin + by)) ≡ not (is_one_of origins origin)
none-of-later by origins origin = ap not (one-of-later by origins origin)

module _ (by : ℕ) where
  abbrev later : List Mark → List Mark
  later = later_set by

  -- the three ways in which two sets go on
  three : (b c : Bool) (x y z x' y' z' : List Mark) → x' ≡ later x → y' ≡ later y → z' ≡ later z
      → (if b then x' else if c then y' else z') ≡ later (if b then x else if c then y else z)
  three true c x y z x' y' z' ex ey ez = ex
  three false true x y z x' y' z' ex ey ez = ey
  three false false x y z x' y' z' ex ey ez = ez

  join-next : (a : Mark) (set : List Mark) → ((others : List Mark) → join (later set) (later others) ≡ later (join set others))
      → (others : List Mark) → join (later (a ∷ set)) (later others) ≡ later (join (a ∷ set) others)
  join-next a set h [] = ap (λ l. later_mark by a ∷ l) (h [])
  join-next a set h (b ∷ others) =
      ap₂
      (λ t u.
      if t then later_mark by a ∷ join (later set) (later (b ∷ others))
      else if u then later_mark by b ∷ join (later (a ∷ set)) (later others)
      else later_mark by (both a b) ∷ join (later set) (later others)) (lt-later by b.origin a.origin) (lt-later by a.origin b.origin)
      ∙ three (nat_lt b.origin a.origin) (nat_lt a.origin b.origin) (a ∷ join set (b ∷ others)) (b ∷ join (a ∷ set) others) (both a b ∷ join set others)
      (later_mark by a ∷ join (later set) (later (b ∷ others))) (later_mark by b ∷ join (later (a ∷ set)) (later others))
      (later_mark by (both a b) ∷ join (later set) (later others)) (ap (λ l. later_mark by a ∷ l) (h (b ∷ others)))
      (ap (λ l. later_mark by b ∷ l) (join-next a set h others)) (ap (λ l. later_mark by (both a b) ∷ l) (h others))

  pub join-later : (set others : List Mark) → join (later set) (later others) ≡ later (join set others)
  join-later [] others = refl
  join-later (a ∷ set) others = join-next a set (join-later set) others

  pub at-later : (places : ℕ) (set : List Mark) → at_places places (later set) ≡ later (at_places places set)
  at-later places set = filter-made (later_mark by) (is_at places) (is_at places) (λ mark. refl) set

  pub given-later : (places badge : ℕ) (set : List Mark) → given places badge (later set) ≡ later (given places badge set)
  given-later places badge set =
      ap (map (put_at badge)) (at-later places set)
      ∙ made-twice (put_at badge) (later_mark by) (put_at badge) (later_mark by) (λ mark. refl) (at_places places set)

  pub taken-later : (taking : Taking) (set : List Mark) → taken taking (later set) ≡ later (taken taking set)
  taken-later (First bits) set =
      ap (map (keep_at bits)) (at-later bits set)
      ∙ made-twice (keep_at bits) (later_mark by) (keep_at bits) (later_mark by) (λ mark. refl) (at_places bits set)
  taken-later (Later places) set = made-twice (put_at places) (later_mark by) (put_at places) (later_mark by) (λ mark. refl) set

  pub without-later : (answered : List ℕ) (set : List Mark)
      → without (later_origins by answered) (later set) ≡ later (without answered set)
  without-later answered set =
      filter-made (later_mark by) (λ mark. not (is_one_of (later_origins by answered) mark.origin))
      (λ mark. not (is_one_of answered mark.origin)) (λ mark. none-of-later by answered mark.origin) set

  -- the origins of a set
  pub origins-later : (set : List Mark) → map (λ (mark : Mark). mark.origin) (later set) ≡ later_origins by (map (λ (mark : Mark). mark.origin) set)
  origins-later set = made-twice (λ (mark : Mark). mark.origin) (later_mark by) (λ (mark : Mark). mark.origin) (λ origin. origin + by) (λ mark. refl) set

  -- the origins without an answer, without those that are answered
  pub left-later : (answered origins : List ℕ)
      → filter (λ origin. not (is_one_of (later_origins by answered) origin)) (later_origins by origins)
      ≡ later_origins by (filter (λ origin. not (is_one_of answered origin)) origins)
  left-later answered origins =
      filter-made (λ origin. origin + by) (λ origin. not (is_one_of (later_origins by answered) origin))
      (λ origin. not (is_one_of answered origin)) (none-of-later by answered) origins
