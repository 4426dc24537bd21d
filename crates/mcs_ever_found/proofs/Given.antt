-- If no word that a notification gave to a thread leaves a thread something to do by the end of the
-- first period, none ever does.
use Rattle.std.proofs.Common.{◌≡◌, ℕ, suc, ◌+◌, ◌<◌, ◌≤◌, Bool, true, false, cond, not, ◌==◌, ◌&&◌, List, [], ◌∷◌, length, refl, sym, ap, subst, ◌∙◌, Option, Some, None, arith}
use Rattle.std.specs.Prelude.{bit_and, bit_or}
use Rattle.std.specs.List.{AllByRecursion}
use Rattle.std.proofs.lemmas.Bool.Decides.{nat_tests}
use Rattle.std.proofs.lemmas.Nat.{and_le_l, and_or_apart, or_comm}
use Rattle.mcs_ticks.specs.declared.row.Row.{Row}
use Rattle.mcs_ticks.specs.declared.row.What.{What}
use Rattle.mcs_ticks.specs.declared.row.What.TheVariants as row
use Rattle.mcs_system.specs.System.{System, note_part}
use Rattle.mcs_system.specs.WellFormed.{IsWellFormed}
use Rattle.mcs_core.specs.Clock.{clock, turn_of}
use Rattle.mcs_verdict.specs.declared.held.Held.{Held}
use Rattle.mcs_verdict.specs.Calls.{is_set}
use Rattle.mcs_verdict.specs.Findings.{past_of}
use Rattle.mcs_verdict.specs.Words.{held_with, gave, taken, held_after}
use Rattle.mcs_verdict_laws.proofs.Due.{set-or}
use Rattle.mcs_verdict_laws.proofs.Fits.{held_in}
use Rattle.mcs_verdict_laws.proofs.Steps.{contrary}
use Rattle.mcs_ever.specs.Later.{Shift, later_what}
use Rattle.mcs_ever.specs.Recurs.{Shifts, shift_of, Recurs}
use Rattle.mcs_ever.specs.laws.Home.{IsOfOwn}
use Rattle.mcs_ever.proofs.Home.{rows-of-own}
use Rattle.mcs_ever.proofs.Repeats.{forever}
use Rattle.mcs_ever.proofs.Schedules.{each-turn}
use Rattle.mcs_ever_found.specs.Recurs.{past_before}
use Rattle.mcs_ever_found.proofs.Alike.{at}
use Rattle.mcs_ever_found.proofs.Carried.{all-map, carried}

-- bits of which neither word leaves anything to do
neither : (bits : Option ℕ) (a b : ℕ) → is_set bits a ≡ false → is_set bits b ≡ false → is_set bits (bit_or a b) ≡ false
neither None a b e f = by (a == 0) (b == 0) refl refl e f
  where
    by : (p q : Bool) → (a == 0) ≡ p → (b == 0) ≡ q → (not p && true) ≡ false → (not q && true) ≡ false → (not (bit_or a b == 0) && true) ≡ false
    by true true g h e f =
        let i : a ≡ 0 = grind (arith, nat_tests) in
        let j : b ≡ 0 = grind (arith, nat_tests) in
        ap (λ a. not (bit_or a b == 0) && true) i ∙ ap (λ b. not (bit_or 0 b == 0) && true) j
    by false q g h e f = absurd (contrary true e refl)
    by true false g h e f = absurd (contrary true f refl)
neither (Some bits) a b e f =
    ap (λ n. not (bit_or a b == 0) && not (n == 0)) (and_or_apart bits a b (zero b f) ∙ zero a e)
    ∙ and-false (not (bit_or a b == 0))
  where
    and-false : (c : Bool) → (c && false) ≡ false
    and-false true = refl
    and-false false = refl

    zero : (w : ℕ) → is_set (Some bits) w ≡ false → bit_and w bits ≡ 0
    zero w g = by (w == 0) (bit_and w bits == 0) refl refl g
      where
        by : (p q : Bool) → (w == 0) ≡ p → (bit_and w bits == 0) ≡ q → (not p && not q) ≡ false → bit_and w bits ≡ 0
        by true q h i g =
            let none : w ≡ 0 = grind (arith, nat_tests) in
            let l = and_le_l w bits in
            omega (arith, none, l)
        by false true h i g = grind (arith, nat_tests)
        by false false h i g = absurd (contrary true g refl)

-- a word of which both leave nothing to do
first-none : (bits : Option ℕ) (a b : ℕ) → is_set bits (bit_or a b) ≡ false → is_set bits a ≡ false
first-none bits a b e = by (is_set bits a) refl
  where
    by : (c : Bool) → is_set bits a ≡ c → c ≡ false
    by false f = refl
    by true f = absurd (contrary (is_set bits (bit_or a b)) e (set-or bits a b f))

second-none : (bits : Option ℕ) (a b : ℕ) → is_set bits (bit_or a b) ≡ false → is_set bits b ≡ false
second-none bits a b e = first-none bits b a (ap (is_set bits) (or_comm b a) ∙ e)

module _ (system : System) (n : ℕ) (bits : Option ℕ) where
  abbrev given : List Row → ℕ
  given past = (held_in system n past).given

  -- a word that the row gives to a thread leaves nothing to do
  abbrev pub GivesNone : What → Type 0
  GivesNone (row.Got x m word) = (m == n) ≡ true → is_set bits word ≡ false
  GivesNone (row.Wake x m word until) = (m == n) ≡ true → is_set bits word ≡ false
  GivesNone (row.Release x) = Unit {0}
  GivesNone (row.Run x) = Unit {0}
  GivesNone (row.Stop x cause charged until) = Unit {0}
  GivesNone (row.Signal x m badge) = Unit {0}
  GivesNone (row.Arrive m badge maker) = Unit {0}
  GivesNone (row.Hold m word) = Unit {0}
  GivesNone (row.Round x number response) = Unit {0}
  GivesNone (row.Order context) = Unit {0}
  GivesNone (row.Interrupt source at_note badge) = Unit {0}

  -- one row more
  none-more : (c t : ℕ) (what : What) (past : List Row) → GivesNone what → is_set bits (given past) ≡ false → is_set bits (given (at t c what ∷ past)) ≡ false
  none-more c t (row.Got x m word) past f e = by (m == n) refl
    where
      by : (b : Bool) → (m == n) ≡ b → is_set bits (cond b (taken word (held_in system n past)) (held_in system n past)).given ≡ false
      by true g = neither bits (given past) word e (f g)
      by false g = e
  none-more c t (row.Wake x m word until) past f e = by (m == n) refl
    where
      by : (b : Bool) → (m == n) ≡ b → is_set bits (cond b (gave word (held_in system n past)) (held_in system n past)).given ≡ false
      by true g = neither bits (given past) word e (f g)
      by false g = e
  none-more c t (row.Hold m word) past f e = by (m == n)
    where
      by : (b : Bool) → is_set bits (cond b (held_with t word (held_in system n past)) (held_in system n past)).given ≡ false
      by true = e
      by false = e
  none-more c t (row.Release x) past f e = e
  none-more c t (row.Run x) past f e = e
  none-more c t (row.Stop x cause charged until) past f e = e
  none-more c t (row.Signal x m badge) past f e = e
  none-more c t (row.Arrive m badge maker) past f e = e
  none-more c t (row.Round x number response) past f e = e
  none-more c t (row.Order context) past f e = e
  none-more c t (row.Interrupt source at_note badge) past f e = e

  -- one row less
  none-less : (c t : ℕ) (what : What) (past : List Row) → is_set bits (given (at t c what ∷ past)) ≡ false → GivesNone what × (is_set bits (given past) ≡ false)
  none-less c t (row.Got x m word) past e = by (m == n) refl e
    where
      by : (b : Bool) → (m == n) ≡ b → is_set bits (cond b (taken word (held_in system n past)) (held_in system n past)).given ≡ false
          → ((m == n) ≡ true → is_set bits word ≡ false) × (is_set bits (given past) ≡ false)
      by true g e = (λ h. second-none bits (given past) word e, first-none bits (given past) word e)
      by false g e = (λ h. absurd (contrary (m == n) g h), e)
  none-less c t (row.Wake x m word until) past e = by (m == n) refl e
    where
      by : (b : Bool) → (m == n) ≡ b → is_set bits (cond b (gave word (held_in system n past)) (held_in system n past)).given ≡ false
          → ((m == n) ≡ true → is_set bits word ≡ false) × (is_set bits (given past) ≡ false)
      by true g e = (λ h. second-none bits (given past) word e, first-none bits (given past) word e)
      by false g e = (λ h. absurd (contrary (m == n) g h), e)
  none-less c t (row.Hold m word) past e = by (m == n) e
    where
      by : (b : Bool) → is_set bits (cond b (held_with t word (held_in system n past)) (held_in system n past)).given ≡ false
          → Unit {0} × (is_set bits (given past) ≡ false)
      by true e = (tt, e)
      by false e = (tt, e)
  none-less c t (row.Release x) past e = (tt, e)
  none-less c t (row.Run x) past e = (tt, e)
  none-less c t (row.Stop x cause charged until) past e = (tt, e)
  none-less c t (row.Signal x m badge) past e = (tt, e)
  none-less c t (row.Arrive m badge maker) past e = (tt, e)
  none-less c t (row.Round x number response) past e = (tt, e)
  none-less c t (row.Order context) past e = (tt, e)
  none-less c t (row.Interrupt source at_note badge) past e = (tt, e)

  all-give-none : (past rows : List Row) → is_set bits (given (past_of past rows)) ≡ false
      → AllByRecursion (λ (r : Row). GivesNone r.what) rows × (is_set bits (given past) ≡ false)
  all-give-none past [] e = (tt, e)
  all-give-none past (r ∷ rows) e =
      let rest = all-give-none (r ∷ past) rows e in
      let here = none-less r.core r.moment r.what past rest.1 in
      ((here.0, rest.0), here.1)

  gives-later : (shift : Shift) (what : What) → GivesNone what → GivesNone (later_what shift what)
  gives-later shift (row.Got x m word) f = f
  gives-later shift (row.Wake x m word until) f = f
  gives-later shift (row.Release x) f = tt
  gives-later shift (row.Run x) f = tt
  gives-later shift (row.Stop x cause charged until) f = tt
  gives-later shift (row.Signal x m badge) f = tt
  gives-later shift (row.Arrive m badge maker) f = tt
  gives-later shift (row.Hold m word) f = tt
  gives-later shift (row.Round x number response) f = tt
  gives-later shift (row.Order context) f = tt
  gives-later shift (row.Interrupt source at_note badge) f = tt

  module _ (group : ℕ → Bool) (shifts : Shifts) (from : ℕ) (well : IsWellFormed system) (recurs : Recurs system group shifts from) (mine : group (note_part system n).core ≡ true) where
    no-core : (c m : ℕ) → group c ≡ false → (note_part system m).core ≡ c → (m == n) ≡ true → ⊥
    no-core c m away home e =
        let same : m ≡ n = grind (arith, nat_tests) in
        contrary (group c) away (ap group (sym home ∙ ap (λ m. (note_part system m).core) same) ∙ mine)

    away-none : (c : ℕ) (what : What) → group c ≡ false → IsOfOwn system c what → GivesNone what
    away-none c (row.Got x m word) away o = λ e. absurd (no-core c m away o.1.home e)
    away-none c (row.Wake x m word until) away o = λ e. absurd (no-core c m away o.1.home e)
    away-none c (row.Release x) away o = tt
    away-none c (row.Run x) away o = tt
    away-none c (row.Stop x cause charged until) away o = tt
    away-none c (row.Signal x m badge) away o = tt
    away-none c (row.Arrive m badge maker) away o = tt
    away-none c (row.Hold m word) away o = tt
    away-none c (row.Round x number response) away o = tt
    away-none c (row.Order context) away o = tt
    away-none c (row.Interrupt source at_note badge) away o = tt

    pub never-given : is_set bits (given (past_before system (from + shifts.by))) ≡ false → (t : ℕ) → from + shifts.by ≤ t → is_set bits (given (past_before system t)) ≡ false
    never-given e t l =
        carried system well 0 (from + shifts.by) (λ c what. GivesNone what) (λ past. is_set bits (given past) ≡ false)
        (λ c m what past k fact fits q. none-more c m what past fact q) (λ m c k known. all m c known)
        (from + shifts.by) t (omega arith) l e
      where
        end : ℕ
        end = from + shifts.by

        first : AllByRecursion (λ (r : Row). GivesNone r.what) (clock system (from + shifts.by)).rows
        first = (all-give-none [] (clock system (from + shifts.by)).rows e).0

        own : (t c : ℕ) → c < system.cores → group c ≡ true → AllByRecursion GivesNone (turn_of system c t).rows
        own t c known is =
            forever system group shifts from well recurs (λ c what. GivesNone what) (λ c what f. gives-later (shift_of shifts c) what f) 0 (omega arith)
            (λ t c low less known is. each-turn (λ (r : Row). GivesNone r.what) system well (from + shifts.by) t c less known first) t c (omega arith) known is

        all : (t c : ℕ) → c < system.cores → AllByRecursion GivesNone (turn_of system c t).rows
        all t c known = by (group c) refl
          where
            by : (b : Bool) → group c ≡ b → AllByRecursion GivesNone (turn_of system c t).rows
            by true is = own t c known is
            by false away =
                all-map (IsOfOwn system c) GivesNone (λ what o. away-none c what away o) (turn_of system c t).rows (rows-of-own system well c t known)
