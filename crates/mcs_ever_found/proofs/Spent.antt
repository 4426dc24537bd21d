-- A thread that is not stopped with its budget exhausted in the first period never is.
use Rattle.std.proofs.Common.{◌≡◌, ℕ, ◌+◌, ◌<◌, ◌≤◌, Bool, true, false, ◌||◌, List, [], ◌∷◌, refl, sym, ap, ◌∙◌, arith}
use Rattle.std.specs.Prelude.{◌==◌}
use Rattle.std.specs.List.{AllByRecursion}
use Rattle.std.proofs.lemmas.Bool.Decides.{nat_tests}
use Rattle.mcs_ticks.specs.declared.row.Row.{Row}
use Rattle.mcs_ticks.specs.declared.row.What.{What}
use Rattle.mcs_ticks.specs.declared.row.What.TheVariants as row
use Rattle.mcs_ticks.specs.declared.row.Why.TheVariants as why
use Rattle.mcs_system.specs.System.{System, thread_part, core_of}
use Rattle.mcs_core.specs.Clock.{clock, turn_of}
use Rattle.mcs_verdict.specs.Findings.{past_of}
use Rattle.mcs_ever.specs.Later.{Shift, later_what}
use Rattle.mcs_ever.specs.Recurs.{shift_of}
use Rattle.mcs_ever.specs.laws.Home.{IsOfOwn}
use Rattle.mcs_ever.proofs.Home.{rows-of-own}
use Rattle.mcs_ever.proofs.Repeats.{forever}
use Rattle.mcs_ever.proofs.Schedules.{each-turn, all-turns}
use Rattle.mcs_ever_found.specs.Course.{is_spent, was_spent}
use Rattle.mcs_ever_found.specs.laws.Course.{NeverSpent}

-- the rows so far, the latest first, and in order
module _ (x : ℕ) where
  abbrev IsNot : Row → Type 0
  IsNot r = is_spent x r.what ≡ false

  or-none : (a b : Bool) → (a || b) ≡ false → (a ≡ false) × (b ≡ false)
  or-none true b e = cc
  or-none false b e = (refl, e)

  or-both : (a b : Bool) → a ≡ false → b ≡ false → (a || b) ≡ false
  or-both a b e f = ap (λ a. a || b) e ∙ f

  to-each : (past rows : List Row) → was_spent x (past_of past rows) ≡ false → (was_spent x past ≡ false) × AllByRecursion IsNot rows
  to-each past [] e = (e, tt)
  to-each past (r ∷ rows) e =
      let rest = to-each (r ∷ past) rows e in
      let here = or-none (is_spent x r.what) (was_spent x past) rest.0 in
      (here.1, (here.0, rest.1))

  of-each : (past rows : List Row) → was_spent x past ≡ false → AllByRecursion IsNot rows → was_spent x (past_of past rows) ≡ false
  of-each past [] e h = e
  of-each past (r ∷ rows) e h = of-each (r ∷ past) rows (or-both (is_spent x r.what) (was_spent x past) h.0 e) h.1

all-map : (P Q : What → Type 0) → ((what : What) → P what → Q what) → (rows : List What) → AllByRecursion P rows → AllByRecursion Q rows
all-map P Q f [] h = tt
all-map P Q f (what ∷ rows) h = (f what h.0, all-map P Q f rows h.1)

timeless : (shift : Shift) (x : ℕ) (what : What) → is_spent x what ≡ false → is_spent x (later_what shift what) ≡ false
timeless shift x (row.Stop y why.Spent k until) h = h
timeless shift x (row.Stop y why.Yield k until) h = h
timeless shift x (row.Stop y why.Wait k until) h = h
timeless shift x (row.Stop y why.Call k until) h = h
timeless shift x (row.Stop y why.Done k until) h = h
timeless shift x (row.Stop y why.Preempt k until) h = h
timeless shift x (row.Stop y why.Order k until) h = h
timeless shift x (row.Round y number response) h = h
timeless shift x (row.Release y) h = h
timeless shift x (row.Run y) h = h
timeless shift x (row.Signal y note badge) h = h
timeless shift x (row.Arrive note badge maker) h = h
timeless shift x (row.Wake y note word until) h = h
timeless shift x (row.Hold note word) h = h
timeless shift x (row.Got y note word) h = h
timeless shift x (row.Order context) h = h
timeless shift x (row.Interrupt source at_note badge) h = h

-- on its own core alone
at-home : (system : System) (x c : ℕ) (what : What) → IsOfOwn system c what → (core_of system (thread_part system x) ≡ c → ⊥) → is_spent x what ≡ false
at-home system x c (row.Stop y why.Spent k until) own away = by (y == x) refl
  where
    same : (a b : ℕ) → (a == b) ≡ true → b ≡ a
    same a b e = grind (arith, nat_tests)

    by : (b : Bool) → (y == x) ≡ b → b ≡ false
    by true e = absurd (away (ap (λ z. core_of system (thread_part system z)) (same y x e) ∙ own.home))
    by false e = refl
at-home system x c (row.Stop y why.Yield k until) own away = refl
at-home system x c (row.Stop y why.Wait k until) own away = refl
at-home system x c (row.Stop y why.Call k until) own away = refl
at-home system x c (row.Stop y why.Done k until) own away = refl
at-home system x c (row.Stop y why.Preempt k until) own away = refl
at-home system x c (row.Stop y why.Order k until) own away = refl
at-home system x c (row.Round y number response) own away = refl
at-home system x c (row.Release y) own away = refl
at-home system x c (row.Run y) own away = refl
at-home system x c (row.Signal y note badge) own away = refl
at-home system x c (row.Arrive note badge maker) own away = refl
at-home system x c (row.Wake y note word until) own away = refl
at-home system x c (row.Hold note word) own away = refl
at-home system x c (row.Got y note word) own away = refl
at-home system x c (row.Order context) own away = refl
at-home system x c (row.Interrupt source at_note badge) own away = refl

pub never-spent : NeverSpent
never-spent system group shifts from well recurs x own first t =
    of-each x [] (clock system t).rows refl (all-turns (IsNot x) system well t (λ s c l known. by s c known (core_of system (thread_part system x) == c) refl))
  where
    Not : What → Type 0
    Not what = is_spent x what ≡ false

    same : (a b : ℕ) → (a == b) ≡ true → a ≡ b
    same a b e = grind (arith, nat_tests)

    differ : (a b : ℕ) → (a == b) ≡ false → a ≡ b → ⊥
    differ a b e f = grind (arith, nat_tests)

    never : (s c : ℕ) → 0 ≤ s → c < system.cores → group c ≡ true → AllByRecursion Not (turn_of system c s).rows
    never =
        forever system group shifts from well recurs (λ c what. is_spent x what ≡ false) (λ c what h. timeless (shift_of shifts c) x what h) 0 (omega arith)
        (λ s c since within known mine.
        each-turn (IsNot x) system well (from + shifts.by) s c within known (to-each x [] (clock system (from + shifts.by)).rows first).1)

    by : (s c : ℕ) → c < system.cores → (home : Bool) → (core_of system (thread_part system x) == c) ≡ home → AllByRecursion Not (turn_of system c s).rows
    by s c known true e = never s c (omega arith) known (ap group (sym (same (core_of system (thread_part system x)) c e)) ∙ own)
    by s c known false e =
        all-map (IsOfOwn system c) Not (λ what h. at-home system x c what h (differ (core_of system (thread_part system x)) c e)) (turn_of system c s).rows
        (rows-of-own system well c s known)
