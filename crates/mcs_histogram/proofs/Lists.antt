-- Elements of lists of numbers: counts, the greatest and the least.
use Rattle.std.proofs.Common.{◌≡◌, ℕ, ◌+◌, ◌<◌, ◌≤◌, min, max, ◌⊎◌, inl, inr, Bool, true, false, cond, List, [], ◌∷◌, length, Some, refl, sym, ap, subst, ◌∙◌, arith}
use Rattle.std.specs.List.{count_by, filter, fold, reduce}
use Rattle.std.proofs.lemmas.Bool.{cases_lt, cases_Bool}
use Rattle.std.proofs.lemmas.List.Sums.{sum_by-cons, count_by-le-length}

-- x is one of the elements
abbrev pub In : ℕ → List ℕ → Type 0
In x [] = ⊥
In x (y ∷ ys) = (x ≡ y) ⊎ In x ys

-- what an element that passes adds to a count
abbrev pub tally : Bool → ℕ
tally passes = cond passes 1 0

pub count_by-cons : (p : ℕ → Bool) (x : ℕ) (xs : List ℕ) → count_by p (x ∷ xs) ≡ tally (p x) + count_by p xs
count_by-cons p x xs = sum_by-cons (λ x. cond (p x) 1 0) x xs

-- what passes p passes q
pub count_by-le : (p q : ℕ → Bool) (xs : List ℕ) → ((x : ℕ) → In x xs → p x ≡ true → q x ≡ true) → count_by p xs ≤ count_by q xs
count_by-le p q [] each = omega arith
count_by-le p q (x ∷ xs) each =
    omega (arith, count_by-cons p x xs, count_by-cons q x xs, one (p x) (q x) (each x (inl refl)), count_by-le p q xs (λ y i. each y (inr i)))
  where
    one : (b c : Bool) → (b ≡ true → c ≡ true) → tally b ≤ tally c
    one false c h = omega arith
    one true c h = omega (arith, ap tally (h refl))

-- r passes what passes p or q, and nothing passes both
pub count_by-add : (p q r : ℕ → Bool) (xs : List ℕ) → ((x : ℕ) → tally (r x) ≡ tally (p x) + tally (q x))
    → count_by r xs ≡ count_by p xs + count_by q xs
count_by-add p q r [] each = omega arith
count_by-add p q r (x ∷ xs) each =
    omega (arith, count_by-cons p x xs, count_by-cons q x xs, count_by-cons r x xs, each x, count_by-add p q r xs each)

pub count_by-none : (p : ℕ → Bool) (xs : List ℕ) → ((x : ℕ) → In x xs → p x ≡ false) → count_by p xs ≡ 0
count_by-none p [] each = refl
count_by-none p (x ∷ xs) each =
    omega (arith, count_by-cons p x xs, ap tally (each x (inl refl)), count_by-none p xs (λ y i. each y (inr i)))

-- if the predicate holds for as many elements as there are, it holds for each
pub all_pass : (p : ℕ → Bool) (xs : List ℕ) (x : ℕ) → length xs ≤ count_by p xs → In x xs → p x ≡ true
all_pass p [] x h i = absurd i
all_pass p (y ∷ ys) x h i = by (p y) refl i (all_pass p ys x)
  where
    by : (b : Bool) → p y ≡ b → (x ≡ y) ⊎ In x ys → (length ys ≤ count_by p ys → In x ys → p x ≡ true) → p x ≡ true
    by false e i rest = absurd (omega (arith, count_by-cons p y ys, ap tally e, count_by-le-length p ys))
    by true e (inl same) rest = ap p same ∙ e
    by true e (inr i) rest = rest (omega (arith, count_by-cons p y ys, ap tally e)) i

-- the greatest of the elements that pass
pub record IsGreatest (p : ℕ → Bool) (xs : List ℕ) (x : ℕ) : Type 0 where
  pub is_in : In x xs
  pub passes : p x ≡ true
  pub others : (y : ℕ) → In y xs → p y ≡ true → y ≤ x

pub greatest_or_none : (p : ℕ → Bool) (xs : List ℕ) → ((x : ℕ) × IsGreatest p xs x) ⊎ ((x : ℕ) → In x xs → p x ≡ false)
greatest_or_none p [] = inr (λ x i. absurd i)
greatest_or_none p (x ∷ xs) = by (greatest_or_none p xs) (cases_Bool (p x))
  where
    rest : (g : ℕ) → IsGreatest p xs g → (p x ≡ true → x ≤ g) → IsGreatest p (x ∷ xs) g
    rest g h le = record {
      is_in = inr h.is_in;
      passes = h.passes;
      others = λ y i e. elim i [ inl same ↦ omega (arith, le (ap p (sym same) ∙ e)) | inr i ↦ h.others y i e ];
    }

    here : p x ≡ true → ((y : ℕ) → In y xs → p y ≡ true → y ≤ x) → IsGreatest p (x ∷ xs) x
    here e h = record { is_in = inl refl; passes = e; others = λ y i e. elim i [ inl same ↦ omega arith | inr i ↦ h y i e ] }

    by : ((g : ℕ) × IsGreatest p xs g) ⊎ ((y : ℕ) → In y xs → p y ≡ false) → (p x ≡ true) ⊎ (p x ≡ false)
        → ((g : ℕ) × IsGreatest p (x ∷ xs) g) ⊎ ((y : ℕ) → In y (x ∷ xs) → p y ≡ false)
    by (inl (g, h)) (inr fails) = inl (g, rest g h (λ e. absurd (cc)))
    by (inl (g, h)) (inl passes) =
        elim (cases_lt g x) [
          | inl lt ↦ inl (x, here passes (λ y i e. omega (arith, h.others y i e)))
          | inr le ↦ inl (g, rest g h (λ e. le))
        ]
    by (inr none) (inl passes) = inl (x, here passes (λ y i e. let fails = none y i in absurd (cc)))
    by (inr none) (inr fails) = inr (λ y i. elim i [ inl same ↦ ap p same ∙ fails | inr i ↦ none y i ])

pub greatest_that_passes : (p : ℕ → Bool) (xs : List ℕ) → 0 < count_by p xs → (x : ℕ) × IsGreatest p xs x
greatest_that_passes p xs h = elim (greatest_or_none p xs) [ inl g ↦ g | inr none ↦ absurd (omega (arith, count_by-none p xs none)) ]

-- ---- a fold of `max`
pub fold-max : (xs : List ℕ) (a : ℕ) → fold max a xs ≡ max a (fold max 0 xs)
fold-max [] a = omega arith
fold-max (x ∷ xs) a = omega (arith, fold-max xs (max a x), fold-max xs (max 0 x))

pub le-fold-max : (xs : List ℕ) (x : ℕ) → In x xs → x ≤ fold max 0 xs
le-fold-max [] x i = absurd i
le-fold-max (y ∷ ys) x i =
    elim i [ inl same ↦ omega (arith, fold-max ys (max 0 y)) | inr i ↦ omega (arith, fold-max ys (max 0 y), le-fold-max ys x i) ]

pub fold-max-le : (xs : List ℕ) (m : ℕ) → ((x : ℕ) → In x xs → x ≤ m) → fold max 0 xs ≤ m
fold-max-le [] m each = omega arith
fold-max-le (x ∷ xs) m each = omega (arith, fold-max xs (max 0 x), each x (inl refl), fold-max-le xs m (λ y i. each y (inr i)))

-- ---- the least
pub record IsLeast (xs : List ℕ) (x : ℕ) : Type 0 where
  pub is_in : In x xs
  pub others : (y : ℕ) → In y xs → x ≤ y

fold-min : (xs : List ℕ) (a : ℕ) → IsLeast (a ∷ xs) (fold min a xs)
fold-min [] a = record { is_in = inl refl; others = λ y i. elim i [ inl same ↦ omega arith | inr i ↦ absurd i ] }
fold-min (x ∷ xs) a = by (fold min (min a x) xs) (fold-min xs (min a x)) (cases_lt x a)
  where
    by : (m : ℕ) → IsLeast (min a x ∷ xs) m → (x < a) ⊎ (a ≤ x) → IsLeast (a ∷ x ∷ xs) m
    by m h c = record {
      is_in = elim h.is_in [
        | inl same ↦ elim c [ inl lt ↦ inr (inl (omega arith)) | inr le ↦ inl (omega arith) ]
        | inr i ↦ inr (inr i)
      ];
      others = λ y i. elim i [
        | inl same ↦ omega (arith, h.others (min a x) (inl refl))
        | inr j ↦ elim j [ inl same ↦ omega (arith, h.others (min a x) (inl refl)) | inr k ↦ h.others y (inr k) ]
      ];
    }

pub is_least : (xs : List ℕ) (m : ℕ) → reduce min xs ≡ Some m → IsLeast xs m
is_least [] m e = absurd (cc)
is_least (x ∷ xs) m e = let same : fold min x xs ≡ m = cc in subst (IsLeast (x ∷ xs)) same (fold-min xs x)

pub has_least : (xs : List ℕ) (x : ℕ) → In x xs → (m : ℕ) × (reduce min xs ≡ Some m)
has_least [] x i = absurd i
has_least (y ∷ ys) x i = (fold min y ys, refl)

-- ---- a filter
pub in_filter : (p : ℕ → Bool) (xs : List ℕ) (x : ℕ) → In x xs → p x ≡ true → In x (filter p xs)
in_filter p [] x i e = absurd i
in_filter p (y ∷ ys) x i e = by (p y) refl i (λ i. in_filter p ys x i e)
  where
    by : (b : Bool) → p y ≡ b → (x ≡ y) ⊎ In x ys → (In x ys → In x (filter p ys)) → In x (cond b (y ∷ filter p ys) (filter p ys))
    by false fails (inl same) rest = let passes = ap p (sym same) ∙ e in absurd (cc)
    by false fails (inr i) rest = rest i
    by true passes (inl same) rest = inl same
    by true passes (inr i) rest = inr (rest i)

pub from_filter : (p : ℕ → Bool) (xs : List ℕ) (x : ℕ) → In x (filter p xs) → In x xs × (p x ≡ true)
from_filter p [] x i = absurd i
from_filter p (y ∷ ys) x i = by (p y) refl (from_filter p ys x) i
  where
    by : (b : Bool) → p y ≡ b → (In x (filter p ys) → In x ys × (p x ≡ true)) → In x (cond b (y ∷ filter p ys) (filter p ys)) → In x (y ∷ ys) × (p x ≡ true)
    by false fails rest i = let found = rest i in (inr found.0, found.1)
    by true passes rest (inl same) = (inl same, ap p same ∙ passes)
    by true passes rest (inr i) = let found = rest i in (inr found.0, found.1)
