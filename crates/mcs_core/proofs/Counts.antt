-- How often a thread is in a queue, when threads enter and leave.
use Rattle.std.proofs.Common.{◌≡◌, ℕ, zero, suc, ◌+◌, ◌<◌, ◌≤◌, Bool, true, false, cond, List, [], ◌∷◌, ◌++◌, length, get_or, set, refl, ap, subst, arith}
use Rattle.std.specs.Prelude.{◌==◌, Some}
use Rattle.std.proofs.lemmas.Bool.Decides.{nat_tests}
use Rattle.mcs_ticks.specs.Queue.{first_among, first_of_greatest, first_of, rest_of, without, entered_back, entered_front}
use Rattle.mcs_ticks.specs.declared.queue.Queued.{Queued}
use Rattle.mcs_ready.specs.Ready.{is_held as is_held_ready}
use Rattle.mcs_release.specs.Release.{is_held as is_held_releases}
use Rattle.mcs_notify.specs.Note.{Note, quiet_note, is_waiting}
use Rattle.mcs_release.specs.declared.dated.Dated.{Dated}
use Rattle.mcs_core.specs.Places.{times_queued, times_dated, times_waiting}

-- what is so either way
pub either : {A : Type 0} (P : A → Type 0) (b : Bool) (x y : A) → P x → P y → P (cond b x y)
either P true x y p q = p
either P false x y p q = q

-- 1 if the numbers are equal
abbrev pub one_if_same : ℕ → ℕ → ℕ
one_if_same x y = cond (x == y) 1 0

pub times_queued-back : (x : ℕ) (z : Queued) (ys : List Queued) → times_queued x (entered_back z ys) ≡ one_if_same z.thread x + times_queued x ys
times_queued-back x z [] = refl
times_queued-back x z (y ∷ ys) = grind (arith, times_queued-back x z ys)

pub times_queued-front : (x : ℕ) (z : Queued) (ys : List Queued) → times_queued x (entered_front z ys) ≡ one_if_same z.thread x + times_queued x ys
times_queued-front x z [] = refl
times_queued-front x z (y ∷ ys) = grind (arith, times_queued-front x z ys)

pub times_queued-rest : (x : ℕ) (best : Queued) (ys : List Queued) → first_of ys ≡ Some best → times_queued x ys ≡ one_if_same best.thread x + times_queued x (rest_of ys)
times_queued-rest x best [] e = cc
times_queued-rest x best (y ∷ ys) e = let f : y ≡ best = cc in ap (λ (q : Queued). one_if_same q.thread x + times_queued x ys) f

pub times_queued-append : (x : ℕ) (ys : List Queued) (z : Queued) → times_queued x (ys ++ z ∷ []) ≡ one_if_same z.thread x + times_queued x ys
times_queued-append x [] z = refl
times_queued-append x (y ∷ ys) z = omega (arith, times_queued-append x ys z)

pub times_dated-append : (x : ℕ) (ys : List Dated) (z : Dated) → times_dated x (ys ++ z ∷ []) ≡ one_if_same z.thread x + times_dated x ys
times_dated-append x [] z = refl
times_dated-append x (y ∷ ys) z = omega (arith, times_dated-append x ys z)

-- the thread that is taken out stood there once
pub times_queued-without : (x thread : ℕ) (ys : List Queued) → 1 ≤ times_queued thread ys → times_queued x ys ≡ one_if_same thread x + times_queued x (without thread ys)
times_queued-without x thread [] h = absurd (omega arith)
times_queued-without x thread (y ∷ ys) h = grind (arith, nat_tests, times_queued-without x thread ys)

first_among-stands : (best : Queued) (ys : List Queued) → 1 ≤ times_queued (first_among best ys).thread (best ∷ ys)
first_among-stands best [] = grind (arith, nat_tests)
first_among-stands best (y ∷ ys) = grind (arith, first_among-stands y ys, first_among-stands best ys)

-- the first of greatest priority stands there
pub greatest-stands : (ys : List Queued) (best : Queued) → first_of_greatest ys ≡ Some best → 1 ≤ times_queued best.thread ys
greatest-stands [] best e = cc
greatest-stands (y ∷ ys) best e =
    let f : first_among y ys ≡ best = cc in
    let P : Queued → Type 0 = λ q. 1 ≤ times_queued q.thread (y ∷ ys) in subst P f (first_among-stands y ys)

-- another list of waiters at a notification
pub times_waiting-set : (x n : ℕ) (note : Note) (notes : List Note) → n < length notes →
    times_waiting x (set notes n note) + times_queued x (get_or notes n quiet_note).waiters ≡ times_waiting x notes + times_queued x note.waiters
times_waiting-set x n note [] h = absurd (omega arith)
times_waiting-set x zero note (y ∷ ys) h = omega arith
times_waiting-set x (suc n) note (y ∷ ys) h = omega (arith, times_waiting-set x n note ys (omega arith))

-- a thread that waits on one of them
pub times_waiting-at : (x n : ℕ) (notes : List Note) → times_queued x (get_or notes n quiet_note).waiters ≤ times_waiting x notes
times_waiting-at x n [] = omega arith
times_waiting-at x zero (y ∷ ys) = omega arith
times_waiting-at x (suc n) (y ∷ ys) = omega (arith, times_waiting-at x n ys)

-- a thread that is never in a queue isn't held by it
pub not_held_ready : (x : ℕ) (ys : List Queued) → times_queued x ys ≡ 0 → is_held_ready x ys ≡ false
not_held_ready x [] e = refl
not_held_ready x (y ∷ ys) e = grind (arith, not_held_ready x ys)

pub not_held_releases : (x : ℕ) (ys : List Dated) → times_dated x ys ≡ 0 → is_held_releases x ys ≡ false
not_held_releases x [] e = refl
not_held_releases x (y ∷ ys) e = grind (arith, not_held_releases x ys)

-- a thread that waits nowhere
pub not_waiting : (x : ℕ) (notes : List Note) → times_waiting x notes ≡ 0 → is_waiting x notes ≡ false
not_waiting x [] e = refl
not_waiting x (note ∷ notes) e = rw (not_held_ready x note.waiters (omega arith), not_waiting x notes (omega arith)) refl
