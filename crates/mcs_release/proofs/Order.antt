-- Threads of one date leave in the order in which they entered.
use Rattle.std.proofs.Common.{◌≡◌, ◌≢◌, ℕ, zero, suc, ◌<◌, not, List, [], ◌∷◌, length, drop, get_or, Option, Some, None, refl, sym, ap, ◌∙◌, inl, inr, arith}
use Rattle.std.specs.Prelude.{filter, slice_get, All, IfSome}
use Rattle.std.proofs.lemmas.Bool.{cases_Bool}
use Rattle.std.proofs.lemmas.Bool.Decides.{nat_tests}
use Rattle.std.proofs.lemmas.List.Elements.{All-head, All-tail}
use Rattle.mcs_release.specs.declared.dated.Dated.{Dated}
use Rattle.mcs_release.proofs.Earliest.{earlier-keeps}
use Rattle.mcs_release.specs.Release.{earliest, is_due, without, when_left, first_due, without_first_due, AreDistinct, LeaveInOrder}

-- of entries with one date the first is the earliest
earliest-date : (date : ℕ) (xs : List Dated) → All (λ x. x.date ≡ date) xs → IfSome (earliest xs) (λ x. x.date ≡ date)
earliest-date date [] all = tt
earliest-date date (x ∷ xs) all =
    let Has : Dated → Type 0 = λ y. y.date ≡ date in
    earlier-keeps Has x (earliest xs) (All-head Has x xs all) (earliest-date date xs (All-tail Has x xs all))

earliest-first : (date : ℕ) (xs : List Dated) → All (λ x. x.date ≡ date) xs → earliest xs ≡ slice_get xs 0
earliest-first date [] all = refl
earliest-first date (x ∷ xs) all =
    let Has : Dated → Type 0 = λ y. y.date ≡ date in
    let first = All-head Has x xs all in
    let earliest = earliest-date date xs (All-tail Has x xs all) in
    grind (arith, nat_tests)

-- the first due thread is in the queue
first-stands : (t : ℕ) (queue : List Dated) (x : Dated) → slice_get (filter (is_due t) queue) 0 ≡ Some x → (k : ℕ) × (k < length queue) × (get_or queue k x ≡ x)
first-stands t [] x e = cc
first-stands t (y ∷ queue) x e = elim (cases_Bool (is_due t y)) [
  | inl due ↦ (zero, omega arith, grind (arith))
  | inr later ↦ let found = first-stands t queue x (rw later at e) in (suc found.0, omega (arith, found.1), found.2)
]

AreDistinct-tail : (y : Dated) (queue : List Dated) → AreDistinct (y ∷ queue) → AreDistinct queue
AreDistinct-tail y queue distinct i j d before below = distinct (suc i) (suc j) d (omega arith) (omega arith)

-- so a thread before it is another one
first-apart : (t : ℕ) (y : Dated) (queue : List Dated) (x : Dated) → AreDistinct (y ∷ queue) → slice_get (filter (is_due t) queue) 0 ≡ Some x → y.thread ≢ x.thread
first-apart t y queue x distinct e same =
    let found = first-stands t queue x e in
    distinct zero (suc found.0) x (omega arith) (omega (arith, found.1)) (same ∙ ap (λ (z : Dated). z.thread) (sym found.2))

-- the first that is due leaves
filters-left : (t : ℕ) (queue : List Dated) (x : Dated) → AreDistinct queue → slice_get (filter (is_due t) queue) 0 ≡ Some x →
    (filter (is_due t) (without x.thread queue) ≡ drop 1 (filter (is_due t) queue))
    × (filter (λ y. not (is_due t y)) (without x.thread queue) ≡ filter (λ y. not (is_due t y)) queue)
filters-left t [] x distinct e = cc
filters-left t (y ∷ queue) x distinct e =
    grind (arith, nat_tests, filters-left t queue x (AreDistinct-tail y queue distinct), first-apart t y queue x distinct)

nil_from_get : (xs : List Dated) → slice_get xs 0 ≡ None → xs ≡ []
nil_from_get [] e = refl
nil_from_get (x ∷ xs) e = cc

pub leave_in_order : LeaveInOrder
leave_in_order t date queue distinct all = by (slice_get (filter (is_due t) queue) 0) refl
  where
    first : first_due t queue ≡ slice_get (filter (is_due t) queue) 0
    first = earliest-first date (filter (is_due t) queue) all

    by : (r : Option Dated) → slice_get (filter (is_due t) queue) 0 ≡ r →
        (first_due t queue ≡ slice_get (filter (is_due t) queue) 0)
        × (filter (is_due t) (without_first_due t queue) ≡ drop 1 (filter (is_due t) queue))
        × (filter (λ x. not (is_due t x)) (without_first_due t queue) ≡ filter (λ x. not (is_due t x)) queue)
    by None e =
        let left : without_first_due t queue ≡ queue = ap (λ (r : Option Dated). when_left r queue) (first ∙ e) in
        let none : filter (is_due t) queue ≡ [] = nil_from_get (filter (is_due t) queue) e in
        (first, ap (filter (is_due t)) left ∙ none ∙ sym (ap (drop 1) none), ap (filter (λ x. not (is_due t x))) left)
    by (Some x) e =
        let left : without_first_due t queue ≡ without x.thread queue = ap (λ (r : Option Dated). when_left r queue) (first ∙ e) in
        let both = filters-left t queue x distinct e in
        (first, ap (filter (is_due t)) left ∙ both.0, ap (filter (λ x. not (is_due t x))) left ∙ both.1)
