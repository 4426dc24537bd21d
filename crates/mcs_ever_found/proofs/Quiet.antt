-- If no row of a group does something in a period, none does it at the next moment: the rows of
-- that moment are those of the period's first moment, later.
use Rattle.std.proofs.Common.{◌≡◌, ℕ, ◌+◌, ◌<◌, ◌≤◌, Bool, true, false, ◌&&◌, ◌||◌, suc, List, [], ◌∷◌, ◌++◌, refl, sym, ap, subst, ◌∙◌, arith}
use Rattle.std.specs.Prelude.{◌==◌, nat_le}
use Rattle.std.specs.List.{AllByRecursion, list_any}
use Rattle.std.proofs.lemmas.Bool.Decides.{nat_tests}
use Rattle.mcs_ticks.specs.declared.row.Row.{Row}
use Rattle.mcs_ticks.specs.declared.row.What.{What}
use Rattle.mcs_ticks.specs.declared.row.What.TheVariants as row
use Rattle.mcs_system.specs.System.{System, thread_part, note_part, core_of}
use Rattle.mcs_system.specs.WellFormed.{IsWellFormed}
use Rattle.mcs_core.specs.Clock.{clock, turn_of, schedule}
use Rattle.mcs_ever.specs.Later.{Shift, later_what}
use Rattle.mcs_ever.specs.Recurs.{Shifts, shift_of, Recurs}
use Rattle.mcs_ever.specs.laws.Home.{IsOfOwn}
use Rattle.mcs_ever.specs.laws.Repeats.{ends_round, EndsNoRound}
use Rattle.mcs_ever.proofs.Home.{rows-of-own}
use Rattle.mcs_ever.proofs.Repeats.{forever}
use Rattle.mcs_ever.proofs.Schedules.{each-turn, all-turns}
use Rattle.mcs_verdict.specs.Account.{is_about}
use Rattle.mcs_ever_found.specs.Period.{whats}
use Rattle.mcs_ever_found.specs.Recurs.{takes_word, TakesNoWord}

and-false : (b : Bool) → (b && false) ≡ false
and-false true = refl
and-false false = refl

or-none : (a b : Bool) → (a || b) ≡ false → (a ≡ false) × (b ≡ false)
or-none true b e = cc
or-none false b e = (refl, e)

-- no row passes a test, so none does from some moment on
none-each : (from : ℕ) (test : What → Bool) (rows : List Row) → list_any test (whats rows) ≡ false →
    AllByRecursion (λ (row : Row). (nat_le from row.moment && test row.what) ≡ false) rows
none-each from test [] e = tt
none-each from test (r ∷ rows) e =
    let both = or-none (test r.what) (list_any test (whats rows)) e in
    (ap (λ b. nat_le from r.moment && b) both.0 ∙ and-false (nat_le from r.moment), none-each from test rows both.1)

both-all : (P : Row → Type 0) (xs ys : List Row) → AllByRecursion P xs → AllByRecursion P ys → AllByRecursion P (xs ++ ys)
both-all P [] ys g h = h
both-all P (r ∷ xs) ys g h = (g.0, both-all P xs ys g.1 h)

all-map : (P Q : What → Type 0) → ((what : What) → P what → Q what) → (rows : List What) → AllByRecursion P rows → AllByRecursion Q rows
all-map P Q f [] h = tt
all-map P Q f (what ∷ rows) h = (f what h.0, all-map P Q f rows h.1)

all-true : (P : What → Type 0) → ((what : What) → P what) → (rows : List What) → AllByRecursion P rows
all-true P f [] = tt
all-true P f (what ∷ rows) = (f what, all-true P f rows)

-- later rows do the same
pub later-ends : (shift : Shift) (x : ℕ) (what : What) → ends_round x (later_what shift what) ≡ ends_round x what
later-ends shift x (row.Round y number response) = refl
later-ends shift x (row.Stop y cause k until) = refl
later-ends shift x (row.Release y) = refl
later-ends shift x (row.Run y) = refl
later-ends shift x (row.Signal y note badge) = refl
later-ends shift x (row.Arrive note badge maker) = refl
later-ends shift x (row.Wake y note word until) = refl
later-ends shift x (row.Hold note word) = refl
later-ends shift x (row.Got y note word) = refl
later-ends shift x (row.Order context) = refl
later-ends shift x (row.Interrupt source at_note badge) = refl

pub later-takes : (shift : Shift) (n : ℕ) (what : What) → takes_word n (later_what shift what) ≡ takes_word n what
later-takes shift n (row.Round y number response) = refl
later-takes shift n (row.Stop y cause k until) = refl
later-takes shift n (row.Release y) = refl
later-takes shift n (row.Run y) = refl
later-takes shift n (row.Signal y note badge) = refl
later-takes shift n (row.Arrive note badge maker) = refl
later-takes shift n (row.Wake y note word until) = refl
later-takes shift n (row.Hold note word) = refl
later-takes shift n (row.Got y note word) = refl
later-takes shift n (row.Order context) = refl
later-takes shift n (row.Interrupt source at_note badge) = refl

module _ (system : System) (group : ℕ → Bool) where
  abbrev home : ℕ → ℕ
  home x = core_of system (thread_part system x)

  abbrev note_home : ℕ → ℕ
  note_home n = (note_part system n).core

  -- a thread or a notification of another core is not the one of the group
  apart : (at : ℕ → ℕ) (a b c : ℕ) → group (at b) ≡ true → group c ≡ false → at a ≡ c → (a == b) ≡ false
  apart at a b c own away is = by (a == b) refl
    where
      same : (a b : ℕ) → (a == b) ≡ true → b ≡ a
      same a b e = grind (arith, nat_tests)

      no : true ≡ false → ⊥
      no e = cc

      by : (s : Bool) → (a == b) ≡ s → s ≡ false
      by true e = absurd (no (sym own ∙ ap (λ x. group (at x)) (same a b e) ∙ ap group is ∙ away))
      by false e = refl

  -- rows of other cores
  pub away-about : (x c : ℕ) (what : What) → group (home x) ≡ true → group c ≡ false → IsOfOwn system c what → is_about x what ≡ false
  away-about x c (row.Round y number response) own away is = apart home y x c own away is.home
  away-about x c (row.Stop y cause k until) own away is = apart home y x c own away is.home
  away-about x c (row.Release y) own away is = apart home y x c own away is.home
  away-about x c (row.Run y) own away is = apart home y x c own away is.home
  away-about x c (row.Signal y note badge) own away is = refl
  away-about x c (row.Arrive note badge maker) own away is = refl
  away-about x c (row.Wake y note word until) own away is = apart home y x c own away is.0.home
  away-about x c (row.Hold note word) own away is = refl
  away-about x c (row.Got y note word) own away is = apart home y x c own away is.0.home
  away-about x c (row.Order context) own away is = refl
  away-about x c (row.Interrupt source at_note badge) own away is = refl

  pub away-ends : (x c : ℕ) (what : What) → group (home x) ≡ true → group c ≡ false → IsOfOwn system c what → ends_round x what ≡ false
  away-ends x c (row.Round y number response) own away is = apart home y x c own away is.home
  away-ends x c (row.Stop y cause k until) own away is = refl
  away-ends x c (row.Release y) own away is = refl
  away-ends x c (row.Run y) own away is = refl
  away-ends x c (row.Signal y note badge) own away is = refl
  away-ends x c (row.Arrive note badge maker) own away is = refl
  away-ends x c (row.Wake y note word until) own away is = refl
  away-ends x c (row.Hold note word) own away is = refl
  away-ends x c (row.Got y note word) own away is = refl
  away-ends x c (row.Order context) own away is = refl
  away-ends x c (row.Interrupt source at_note badge) own away is = refl

  pub away-takes : (n c : ℕ) (what : What) → group (note_home n) ≡ true → group c ≡ false → IsOfOwn system c what → takes_word n what ≡ false
  away-takes n c (row.Round y number response) own away is = refl
  away-takes n c (row.Stop y cause k until) own away is = refl
  away-takes n c (row.Release y) own away is = refl
  away-takes n c (row.Run y) own away is = refl
  away-takes n c (row.Signal y note badge) own away is = refl
  away-takes n c (row.Arrive note badge maker) own away is = refl
  away-takes n c (row.Wake y note word until) own away is = refl
  away-takes n c (row.Hold note word) own away is = refl
  away-takes n c (row.Got y note word) own away is = apart note_home note n c own away is.1.home
  away-takes n c (row.Order context) own away is = refl
  away-takes n c (row.Interrupt source at_note badge) own away is = refl

  module _ (shifts : Shifts) (from : ℕ) (well : IsWellFormed system) (recurs : Recurs system group shifts from) where
    -- the rows of the period
    module _ (between : List Row) (on : (clock system (from + shifts.by)).rows ≡ (clock system from).rows ++ between) where
      -- a test that does not depend on the time, and that no row of another core passes
      quiet : (test : What → Bool) → ((c : ℕ) (what : What) → test (later_what (shift_of shifts c) what) ≡ test what) →
          ((c : ℕ) (what : What) → group c ≡ false → IsOfOwn system c what → test what ≡ false) → list_any test (whats between) ≡ false →
          AllByRecursion (λ (row : Row). (nat_le from row.moment && test row.what) ≡ false) (schedule system (from + shifts.by))
      quiet test timeless away none = all-turns Fails system well (suc (from + shifts.by)) (λ t c l known. by t c known (nat_le from t) refl (group c) refl)
        where
          Fails : Row → Type 0
          Fails row = (nat_le from row.moment && test row.what) ≡ false

          Then : ℕ → What → Type 0
          Then t what = (nat_le from t && test what) ≡ false

          -- no row comes before its moment
          before : AllByRecursion Fails (clock system from).rows
          before =
              all-turns Fails system well from
              (λ t c l known. all-true (Then t) (λ what. ap (λ b. b && test what) (let late : nat_le from t ≡ false = grind (arith, nat_tests) in late)) (turn_of system c t).rows)

          first : AllByRecursion Fails (clock system (from + shifts.by)).rows
          first =
              let P : List Row → Type 0 = λ rows. AllByRecursion Fails rows in
              subst P (sym on) (both-all Fails (clock system from).rows between before (none-each from test between none))

          come : (t : ℕ) → from ≤ t → nat_le from t ≡ true
          come t l = grind (arith, nat_tests)

          ever : (t c : ℕ) → from ≤ t → c < system.cores → group c ≡ true → AllByRecursion (λ what. test what ≡ false) (turn_of system c t).rows
          ever =
              forever system group shifts from well recurs (λ c what. test what ≡ false) (λ c what h. timeless c what ∙ h) from (omega arith)
              (λ t c since within known own.
              all-map (Then t) (λ what. test what ≡ false) (λ what h. ap (λ b. b && test what) (sym (come t since)) ∙ h) (turn_of system c t).rows
              (each-turn Fails system well (from + shifts.by) t c within known first))

          by : (t c : ℕ) → c < system.cores → (b : Bool) → nat_le from t ≡ b → (mine : Bool) → group c ≡ mine → AllByRecursion (Then t) (turn_of system c t).rows
          by t c known false e mine f = all-true (Then t) (λ what. ap (λ b. b && test what) e) (turn_of system c t).rows
          by t c known true e true f =
              all-map (λ what. test what ≡ false) (Then t) (λ what h. ap (λ b. b && test what) e ∙ h) (turn_of system c t).rows
              (ever t c (grind (arith, nat_tests)) known f)
          by t c known true e false f =
              all-map (IsOfOwn system c) (Then t) (λ what h. ap (λ b. b && test what) e ∙ away c what f h) (turn_of system c t).rows
              (rows-of-own system well c t known)

      pub ends-none : (x : ℕ) → group (home x) ≡ true → list_any (ends_round x) (whats between) ≡ false → EndsNoRound system x from (from + shifts.by)
      ends-none x own none = quiet (ends_round x) (λ c what. later-ends (shift_of shifts c) x what) (λ c what away is. away-ends x c what own away is) none

      pub takes-none : (n : ℕ) → group (note_home n) ≡ true → list_any (takes_word n) (whats between) ≡ false → TakesNoWord system n from (from + shifts.by)
      takes-none n own none = quiet (takes_word n) (λ c what. later-takes (shift_of shifts c) n what) (λ c what away is. away-takes n c what own away is) none
