-- How often a thread occurs in lines.
use Rattle.std.proofs.Common.{◌≡◌, ℕ, zero, suc, ◌+◌, ◌<◌, ◌≤◌, ◌==◌, true, false, List, [], ◌∷◌, ◌++◌, length, map, get_or, set, eqb, refl, ap, ◌∙◌, arith}
use Rattle.std.specs.Prelude.{nat_lt}
use Rattle.std.specs.List.{list_any, AllByRecursion, IsDistinct}
use Rattle.std.proofs.lemmas.Bool.{eq-eqb}
use Rattle.std.proofs.lemmas.Bool.Decides.{nat_tests}
use Rattle.std.proofs.lemmas.List.{get_or_past, map-append}
use Rattle.std.proofs.lemmas.List.Folds.{list_any-append}
use Rattle.std.proofs.lemmas.Map.Steps.{length-le_from_distinct_below}
use Rattle.mcs_ticks.specs.declared.queue.Queued.{Queued}
use Rattle.mcs_ready.specs.stored.Lines.{no_thread, names_one, queued_at, queue_from, times, times_in, one_if}
use Rattle.mcs_ready.specs.Ready.{is_held}

pub times-append : (x : ℕ) (ys zs : List ℕ) → times x (ys ++ zs) ≡ times x ys + times x zs
times-append x [] zs = omega arith
times-append x (y ∷ ys) zs = omega (arith, times-append x ys zs)

pub times-le-times_in : (x i : ℕ) (lines : List (List ℕ)) → times x (get_or lines i []) ≤ times_in x lines
times-le-times_in x i [] = omega arith
times-le-times_in x zero (line ∷ lines) = omega arith
times-le-times_in x (suc i) (line ∷ lines) = omega (arith, times-le-times_in x i lines)

-- one line is changed
pub times_in-set : (x i : ℕ) (lines : List (List ℕ)) (line : List ℕ) → i < length lines →
    times_in x (set lines i line) + times x (get_or lines i []) ≡ times_in x lines + times x line
times_in-set x i [] line h = absurd (omega arith)
times_in-set x zero (ys ∷ lines) line h = omega arith
times_in-set x (suc i) (ys ∷ lines) line h = omega (arith, times_in-set x i lines line (omega arith))

-- a thread counts once more at the head of a line
pub times-cons_same : (x : ℕ) (ys : List ℕ) → times x (x ∷ ys) ≡ 1 + times x ys
times-cons_same x ys = rw (eq-eqb x x refl) refl

-- a thread that occurs once occurs in one line only
pub times-elsewhere : (x i j : ℕ) (lines : List (List ℕ)) → (i ≡ j → ⊥) → times x (get_or lines i []) + times x (get_or lines j []) ≤ times_in x lines
times-elsewhere x i j [] ne = omega arith
times-elsewhere x zero zero (line ∷ lines) ne = absurd (ne refl)
times-elsewhere x zero (suc j) (line ∷ lines) ne = omega (arith, times-le-times_in x j lines)
times-elsewhere x (suc i) zero (line ∷ lines) ne = omega (arith, times-le-times_in x i lines)
times-elsewhere x (suc i) (suc j) (line ∷ lines) ne = omega (arith, times-elsewhere x i j lines (λ e. ne (ap suc e)))

-- the thread is in the queue if and only if it occurs in a line
is_held-queued_at : (x p : ℕ) (ys : List ℕ) → is_held x (queued_at p ys) ≡ nat_lt 0 (times x ys)
is_held-queued_at x p [] = refl
is_held-queued_at x p (y ∷ ys) = grind (arith, nat_tests, is_held-queued_at x p ys)

pub is_held-queue_from : (x p : ℕ) (lines : List (List ℕ)) → is_held x (queue_from p lines) ≡ nat_lt 0 (times_in x lines)
is_held-queue_from x p [] = refl
is_held-queue_from x p (ys ∷ lines) =
    list_any-append (λ (q : Queued). q.thread == x) (queue_from (suc p) lines) (queued_at p ys)
    ∙ rw (is_held-queue_from x (suc p) lines, is_held-queued_at x p ys) (grind (arith, nat_tests))

-- a thread that names one has a number that there is room for
pub names-below : (next : List ℕ) (x : ℕ) → names_one next x ≡ true → x < length next
names-below next x names = grind (arith, nat_tests, get_or_past next x no_thread)

apart : (x : ℕ) (ys : List ℕ) → times x ys ≡ 0 → AllByRecursion (λ y. (x == y) ≡ false) ys
apart x [] none = tt
apart x (y ∷ ys) none = (grind (arith, nat_tests), apart x ys (omega arith))

distinct : (xs : List ℕ) → ((x : ℕ) → times x xs ≤ 1) → IsDistinct eqb xs
unfolding IsDistinct
distinct [] once = tt
distinct (x ∷ xs) once = (apart x xs (omega (arith, once x, times-cons_same x xs)), distinct xs (λ y. omega (arith, once y)))

stands : (x : ℕ) (ys : List ℕ) → list_any (eqb x) ys ≡ true → 1 ≤ times x ys
stands x [] e = cc
stands x (y ∷ ys) e = grind (arith, nat_tests, stands x ys)

-- if each thread of a list names a next one and occurs once, the list is at most as long as there
-- are places
module _ (xs next : List ℕ) (once : (x : ℕ) → times x xs ≤ one_if (names_one next x)) where
  at_most : (x : ℕ) → times x xs ≤ 1
  at_most x = grind (arith, once x)

  within : (x : ℕ) → list_any (eqb x) xs ≡ true → x < length next
  within x e = names-below next x (grind (arith, once x, stands x xs e))

  pub length-le-room : length xs ≤ length next
  length-le-room = length-le_from_distinct_below xs (length next) (distinct xs at_most) within

  -- and it is shorter, if one of the places names no next one
  pub length-lt-room : (x : ℕ) → x < length next → names_one next x ≡ false → length xs < length next
  unfolding IsDistinct
  length-lt-room x below free = omega (arith, length-le_from_distinct_below (x ∷ xs) (length next) both all)
    where
      both : IsDistinct eqb (x ∷ xs)
      both = (apart x xs (omega (arith, once x, ap one_if free)), distinct xs at_most)

      all : (y : ℕ) → list_any (eqb y) (x ∷ xs) ≡ true → y < length next
      all y e = grind (arith, nat_tests, within y)

-- the queue holds a thread as often as the lines do
times-queued_at : (x p : ℕ) (ys : List ℕ) → times x (map (λ (q : Queued). q.thread) (queued_at p ys)) ≡ times x ys
times-queued_at x p [] = refl
times-queued_at x p (y ∷ ys) = omega (arith, times-queued_at x p ys)

pub times-queue_from : (x p : ℕ) (lines : List (List ℕ)) → times x (map (λ (q : Queued). q.thread) (queue_from p lines)) ≡ times_in x lines
times-queue_from x p [] = refl
times-queue_from x p (ys ∷ lines) =
    ap (times x) (map-append (λ (q : Queued). q.thread) (queue_from (suc p) lines) (queued_at p ys))
    ∙ times-append x (map (λ (q : Queued). q.thread) (queue_from (suc p) lines)) (map (λ (q : Queued). q.thread) (queued_at p ys))
    ∙ omega (arith, times-queue_from x (suc p) lines, times-queued_at x p ys)

pub times-get_or : (xs : List ℕ) (i : ℕ) → i < length xs → 1 ≤ times (get_or xs i 0) xs
times-get_or [] i h = absurd (omega arith)
times-get_or (y ∷ ys) zero h = omega (arith, times-cons_same y ys)
times-get_or (y ∷ ys) (suc i) h = omega (arith, times-get_or ys i (omega arith))

-- if each occurs at most once, no two indices have the same
pub distinct_from_once : (xs : List ℕ) → ((x : ℕ) → times x xs ≤ 1) → (i j : ℕ) → i < j → j < length xs → get_or xs i 0 ≡ get_or xs j 0 → ⊥
distinct_from_once [] once i j before h same = absurd (omega arith)
distinct_from_once (y ∷ ys) once i zero before h same = absurd (omega arith)
distinct_from_once (y ∷ ys) once zero (suc j) before h same =
    absurd (omega (arith, once y, times-cons_same y ys, ap (λ (x : ℕ). times x ys) same, times-get_or ys j (omega arith)))
distinct_from_once (y ∷ ys) once (suc i) (suc j) before h same = distinct_from_once ys (λ x. omega (arith, once x)) i j (omega arith) (omega arith) same
