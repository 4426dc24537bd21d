-- The earliest of places and of queues, and those that are due.
use Rattle.std.proofs.Common.{◌≡◌, ℕ, zero, suc, ◌<◌, ◌≤◌, cond, List, [], ◌∷◌, ◌++◌, get_or, Option, Some, None, refl, sym, ap, ◌∙◌, arith}
use Rattle.std.specs.Prelude.{nat_lt, nat_le, filter, IfSome}
use Rattle.std.proofs.lemmas.Bool.{cond_both, le-ltb}
use Rattle.std.proofs.lemmas.Bool.Decides.{nat_tests}
use Rattle.mcs_ticks.specs.Soonest.{sooner, HasCome}
use Rattle.mcs_release.specs.declared.dated.Dated.{Dated}
use Rattle.mcs_release.specs.stored.Places.{entered}
use Rattle.mcs_release.specs.Release.{earlier, earliest, next_date, is_due, first_due}

earlier-first : (x : Dated) (r : Option Dated) → IfSome r (λ y. x.date ≤ y.date) → earlier x r ≡ x
earlier-first x None h = refl
earlier-first x (Some y) h = rw (le-ltb y.date x.date h) refl

-- what holds of both holds of the earlier one
pub earlier-keeps : (P : Dated → Type 0) (x : Dated) (r : Option Dated) → P x → IfSome r P → P (earlier x r)
earlier-keeps P x None h k = h
earlier-keeps P x (Some y) h k = cond_both (nat_lt y.date x.date) y x P (λ e. k) (λ e. h)

-- if all dates are at least this one, the earliest one is too
earliest-least : (places : List (Option Dated)) (date : ℕ) → ((i : ℕ) (y : Dated) → get_or places i None ≡ Some y → date ≤ y.date) →
    IfSome (earliest (entered places)) (λ y. date ≤ y.date)
earliest-least [] date all = tt
earliest-least (None ∷ places) date all = earliest-least places date (λ i y e. all (suc i) y e)
earliest-least (Some x ∷ places) date all =
    earlier-keeps (λ (y : Dated). date ≤ y.date) x (earliest (entered places)) (all zero x refl) (earliest-least places date (λ i y e. all (suc i) y e))

-- the one before which no other comes, by dates and then by places, is the earliest
pub earliest-place : (places : List (Option Dated)) (k : ℕ) (x : Dated) → get_or places k None ≡ Some x →
    ((i : ℕ) (y : Dated) → get_or places i None ≡ Some y → (x.date ≤ y.date) × (i < k → x.date < y.date)) → earliest (entered places) ≡ Some x
earliest-place [] k x e first = cc
earliest-place (place ∷ places) zero x e first =
    grind (arith, nat_tests, first zero, earliest-least places x.date (λ i z at. (first (suc i) z at).0))
earliest-place (place ∷ places) (suc k) x e first =
    grind (arith, nat_tests, first zero, earliest-place places k x e (λ i z at. ((first (suc i) z at).0, λ before. (first (suc i) z at).1 (omega arith))))

-- the earliest, if its date has come
abbrev due_only : ℕ → Option Dated → Option Dated
due_only t None = None
due_only t (Some x) = cond (nat_le x.date t) (Some x) None

due-step : (t : ℕ) (x : Dated) (r : Option Dated) (dues : List Dated) → earliest dues ≡ due_only t r →
    earliest (cond (nat_le x.date t) (x ∷ dues) dues) ≡ due_only t (Some (earlier x r))
due-step t x r dues e = grind (arith, nat_tests)

first_due-earliest : (t : ℕ) (queue : List Dated) → first_due t queue ≡ due_only t (earliest queue)
first_due-earliest t [] = refl
first_due-earliest t (x ∷ queue) = due-step t x (earliest queue) (filter (is_due t) queue) (first_due-earliest t queue)

-- if the earliest date has come, the earliest is the first due; otherwise `first_due` is `None`
pub first_due-come : (t : ℕ) (queue : List Dated) → HasCome t (next_date queue) → first_due t queue ≡ earliest queue
first_due-come t queue come = grind (arith, nat_tests, first_due-earliest t queue)

pub first_due-later : (t : ℕ) (queue : List Dated) → (HasCome t (next_date queue) → ⊥) → first_due t queue ≡ None
first_due-later t queue later = grind (arith, nat_tests, first_due-earliest t queue)

-- the least date, when one enters
next_date-cons : (x : Dated) (queue : List Dated) → next_date (x ∷ queue) ≡ sooner (Some x.date) (next_date queue)
next_date-cons x queue = grind (arith, nat_tests)

sooner-assoc : (a c : ℕ) (r : Option ℕ) → sooner (Some a) (sooner r (Some c)) ≡ sooner (sooner (Some a) r) (Some c)
sooner-assoc a c r = grind (arith, nat_tests)

pub next_date-entered : (queue : List Dated) (x : Dated) → next_date (queue ++ x ∷ []) ≡ sooner (next_date queue) (Some x.date)
next_date-entered [] x = refl
next_date-entered (y ∷ queue) x =
    next_date-cons y (queue ++ x ∷ []) ∙ ap (sooner (Some y.date)) (next_date-entered queue x) ∙ sooner-assoc y.date x.date (next_date queue)
    ∙ sym (ap (λ (r : Option ℕ). sooner r (Some x.date)) (next_date-cons y queue))

-- the date is `None` only if the queue is empty
pub next_date-none : (queue : List Dated) → next_date queue ≡ None → queue ≡ []
next_date-none [] e = refl
next_date-none (x ∷ queue) e = cc
