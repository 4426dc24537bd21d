-- Tests of numbers, and what holds of each element of a list.
use Rattle.std.proofs.Common.{◌≡◌, ◌≢◌, ℕ, Bool, true, false, cond, ◌==◌, ◌&&◌, List, [], ◌∷◌, ◌≤◌, refl, arith}
use Rattle.std.specs.Prelude.{filter}
use Rattle.std.specs.List.{AllByRecursion}
use Rattle.std.proofs.lemmas.Bool.Decides.{nat_tests}

pub equal : (a b : ℕ) → (a == b) ≡ true → a ≡ b
equal a b e = grind (arith, nat_tests)

pub itself : (a : ℕ) → (a == a) ≡ true
itself a = grind (arith, nat_tests)

pub apart : (a b : ℕ) → a ≢ b → (a == b) ≡ false
apart a b h = grind (arith, nat_tests)

pub is_zero : (n : ℕ) → (n == 0) ≡ true → n ≡ 0
is_zero n e = grind (arith, nat_tests)

pub left-true : (a b : Bool) → (a && b) ≡ true → a ≡ true
left-true true b e = refl
left-true false b e = absurd (cc)

pub right-true : (a b : Bool) → (a && b) ≡ true → b ≡ true
right-true true b e = e
right-true false b e = absurd (cc)

pub all-filter : {A : Type 0} (C : A → Type 0) (p : A → Bool) (xs : List A) → AllByRecursion C xs → AllByRecursion C (filter p xs)
all-filter C p [] all = tt
all-filter C p (x ∷ xs) all = by (p x) (all-filter C p xs all.1)
  where
    by : (b : Bool) → AllByRecursion C (filter p xs) → AllByRecursion C (cond b (x ∷ filter p xs) (filter p xs))
    by true rest = (all.0, rest)
    by false rest = rest
