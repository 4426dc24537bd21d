-- How often a thread stands among entries, and how many entries there can be.
use Rattle.std.proofs.Common.{◌≡◌, ℕ, ◌+◌, ◌<◌, ◌≤◌, ◌==◌, true, false, List, [], ◌∷◌, ◌++◌, length, map, eqb, refl, arith}
use Rattle.std.specs.Prelude.{nat_lt}
use Rattle.std.specs.List.{list_any, AllByRecursion, IsDistinct}
use Rattle.std.proofs.lemmas.Bool.{eq-eqb}
use Rattle.std.proofs.lemmas.Bool.Decides.{nat_tests}
use Rattle.std.proofs.lemmas.List.{length-map}
use Rattle.std.proofs.lemmas.Map.Steps.{length-le_from_distinct_below}
use Rattle.mcs_release.specs.declared.dated.Dated.{Dated}
use Rattle.mcs_release.specs.stored.Places.{times, one_if}
use Rattle.mcs_release.specs.Release.{is_held}

pub times-append : (x : ℕ) (ys zs : List Dated) → times x (ys ++ zs) ≡ times x ys + times x zs
times-append x [] zs = omega arith
times-append x (y ∷ ys) zs = omega (arith, times-append x ys zs)

pub times-cons_same : (y : Dated) (ys : List Dated) → times y.thread (y ∷ ys) ≡ 1 + times y.thread ys
times-cons_same y ys = rw (eq-eqb y.thread y.thread refl) refl

-- a thread that is not held stands nowhere
pub times-free : (x : ℕ) (ys : List Dated) → is_held x ys ≡ false → times x ys ≡ 0
times-free x [] free = refl
times-free x (y ∷ ys) free = grind (arith, nat_tests, times-free x ys)

-- the numbers of the threads
abbrev threads_of : List Dated → List ℕ
threads_of = map (λ x. x.thread)

apart : (x : ℕ) (ys : List Dated) → times x ys ≡ 0 → AllByRecursion (λ y. (x == y) ≡ false) (threads_of ys)
apart x [] none = tt
apart x (y ∷ ys) none = (grind (arith, nat_tests), apart x ys (omega arith))

distinct : (xs : List Dated) → ((x : ℕ) → times x xs ≤ 1) → IsDistinct eqb (threads_of xs)
unfolding IsDistinct
distinct [] once = tt
distinct (x ∷ xs) once = (apart x.thread xs (omega (arith, once x.thread, times-cons_same x xs)), distinct xs (λ t. omega (arith, once t)))

times-stands : (x : ℕ) (ys : List Dated) → list_any (eqb x) (threads_of ys) ≡ true → 1 ≤ times x ys
times-stands x [] e = cc
times-stands x (y ∷ ys) e = grind (arith, nat_tests, times-stands x ys)

-- distinct threads below `room` are at most `room` entries
pub length-le-room : (xs : List Dated) (room : ℕ) → ((x : ℕ) → times x xs ≤ one_if (nat_lt x room)) → length xs ≤ room
length-le-room xs room once =
    omega (arith, length-map xs (λ (x : Dated). x.thread), length-le_from_distinct_below (threads_of xs) room (distinct xs at_most) below)
  where
    at_most : (x : ℕ) → times x xs ≤ 1
    at_most x = grind (arith, once x)

    below : (x : ℕ) → list_any (eqb x) (threads_of xs) ≡ true → x < room
    below x e = grind (arith, nat_tests, once x, times-stands x xs e)
