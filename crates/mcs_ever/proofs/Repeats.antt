-- Properties that repeat, and so hold for ever.
use Rattle.std.proofs.Common.{◌≡◌, ℕ, zero, suc, ◌+◌, ◌-◌, ◌<◌, ◌≤◌, Bool, true, false, not, ◌&&◌, ◌||◌, List, [], ◌∷◌, map, refl, sym, ap, subst, ◌∙◌, arith}
use Rattle.std.specs.Prelude.{nat_lt, nat_le, ◌==◌}
use Rattle.std.specs.List.{AllByRecursion}
use Rattle.std.proofs.lemmas.Bool.Decides.{nat_tests}
use Rattle.mcs_ticks.specs.declared.row.What.{What}
use Rattle.mcs_ticks.specs.declared.row.What.TheVariants as row
use Rattle.mcs_system.specs.System.{System, thread_part, core_of}
use Rattle.mcs_system.specs.WellFormed.{IsWellFormed}
use Rattle.mcs_core.specs.Clock as clocks
use Rattle.mcs_ever.specs.Later.{later_what}
use Rattle.mcs_ever.specs.Recurs.{Shifts, shift_of, Recurs}
use Rattle.mcs_ever.specs.laws.Home.{IsOfOwn}
use Rattle.mcs_ever.specs.laws.Repeats.{TurnsRepeat, IsTimeless, TestsAreForever, is_in_time, NeverLate, ends_round, NoRoundEndsAgain}
use Rattle.mcs_ever.proofs.Home.{rows-of-own}
use Rattle.mcs_ever.proofs.Worlds.{rows-again}
use Rattle.mcs_ever.proofs.Schedules.{each-turn, all-turns}

module _ (system : System) (group : ℕ → Bool) (shifts : Shifts) (a : ℕ) (well : IsWellFormed system) (recurs : Recurs system group shifts a) where
  abbrev d : ℕ
  d = shifts.by

  abbrev rows : ℕ → ℕ → List What
  rows t c = (clocks.turn_of system c t).rows

  -- a property of a row holds for the same row later: it holds for all rows if it holds for those
  -- before a + d
  module _ (Test : ℕ → What → Type 0) (timeless : (c : ℕ) (what : What) → Test c what → Test c (later_what (shift_of shifts c) what))
      (from : ℕ) (early : from ≤ a) (first : (t c : ℕ) → from ≤ t → t < a + d → c < system.cores → group c ≡ true → AllByRecursion (Test c) (rows t c)) where
    kept : (c : ℕ) (rows : List What) → AllByRecursion (Test c) rows → AllByRecursion (Test c) (map (later_what (shift_of shifts c)) rows)
    kept c [] h = tt
    kept c (what ∷ rows) h = (timeless c what h.0, kept c rows h.1)

    below : (n t c : ℕ) → t < n → from ≤ t → c < system.cores → group c ≡ true → AllByRecursion (Test c) (rows t c)
    below zero t c l more known own = absurd (omega (arith, l))
    below (suc n) t c l more known own = by (below n (t - d) c) (nat_lt t (a + d)) refl
      where
        some : 1 ≤ d
        some = recurs.some

        by : (t - d < n → from ≤ t - d → c < system.cores → group c ≡ true → AllByRecursion (Test c) (rows (t - d) c)) → (b : Bool) → nat_lt t (a + d) ≡ b → AllByRecursion (Test c) (rows t c)
        by i true e = first t c more (grind (arith, nat_tests)) known own
        by i false e =
            let m : a + d ≤ t = grind (arith, nat_tests) in
            let f : t - d + d ≡ t = omega (arith, m) in
            let P : ℕ → Type 0 = λ s. AllByRecursion (Test c) (rows s c) in
            let Q : List What → Type 0 = λ rows. AllByRecursion (Test c) rows in
            subst P f
            (subst Q (sym (rows-again system group shifts a well recurs (t - d) c (omega (arith, m)) known own))
            (kept c (rows (t - d) c) (i (omega (arith, l, m, some)) (omega (arith, m, early)) known own)))

    pub forever : (t c : ℕ) → from ≤ t → c < system.cores → group c ≡ true → AllByRecursion (Test c) (rows t c)
    forever t c more known own = below (suc t) t c (omega arith) more known own

pub turns-repeat : TurnsRepeat
turns-repeat system group shifts a well recurs t c l known own = rows-again system group shifts a well recurs t c l known own

pub tests-are-forever : TestsAreForever
tests-are-forever system group shifts a well recurs test timeless from early first t c more known own =
    forever system group shifts a well recurs (λ c what. test c what ≡ true) timeless from early first t c more known own

-- one fact on rows and then another
all-map : {A : Type 0} (P Q : A → Type 0) → ((x : A) → P x → Q x) → (xs : List A) → AllByRecursion P xs → AllByRecursion Q xs
all-map P Q f [] h = tt
all-map P Q f (x ∷ xs) h = (f x h.0, all-map P Q f xs h.1)

all-true : {A : Type 0} (P : A → Type 0) → ((x : A) → P x) → (xs : List A) → AllByRecursion P xs
all-true P f [] = tt
all-true P f (x ∷ xs) = (f x, all-true P f xs)

timeless-in_time : (system : System) (shifts : Shifts) → IsTimeless shifts (λ c what. is_in_time system what)
timeless-in_time system shifts c (row.Round thread number response) h = h
timeless-in_time system shifts c (row.Stop thread why k until) h = h
timeless-in_time system shifts c (row.Release thread) h = h
timeless-in_time system shifts c (row.Run thread) h = h
timeless-in_time system shifts c (row.Signal thread note badge) h = h
timeless-in_time system shifts c (row.Arrive note badge maker) h = h
timeless-in_time system shifts c (row.Wake thread note word until) h = h
timeless-in_time system shifts c (row.Hold note word) h = h
timeless-in_time system shifts c (row.Got thread note word) h = h
timeless-in_time system shifts c (row.Order context) h = h
timeless-in_time system shifts c (row.Interrupt source note badge) h = h

pub never-late : NeverLate
never-late system group shifts a well recurs first horizon = all-turns (λ row. InTime row.core row.what) system well (suc horizon) (λ t c l known. by t c known (group c) refl)
  where
    InTime : ℕ → What → Type 0
    InTime c what = (not (group c) || is_in_time system what) ≡ true

    in_time : (t c : ℕ) → c < system.cores → group c ≡ true → AllByRecursion (λ what. is_in_time system what ≡ true) (clocks.turn_of system c t).rows
    in_time t c known own =
        tests-are-forever system group shifts a well recurs (λ c what. is_in_time system what) (timeless-in_time system shifts) 0 (omega arith)
        (λ t c _ l known own. all-map (InTime c) (λ what. is_in_time system what ≡ true) (λ what h. sym (ap (λ b. not b || is_in_time system what) own) ∙ h) (clocks.turn_of system c t).rows
        (each-turn (λ row. InTime row.core row.what) system well (suc (a + shifts.by)) t c (omega (arith, l)) known first)) t c (omega arith) known own

    by : (t c : ℕ) → c < system.cores → (b : Bool) → group c ≡ b → AllByRecursion (InTime c) (clocks.turn_of system c t).rows
    by t c known true e =
        all-map (λ what. is_in_time system what ≡ true) (InTime c) (λ what h. ap (λ b. not b || is_in_time system what) e ∙ h) (clocks.turn_of system c t).rows (in_time t c known e)
    by t c known false e = all-true (InTime c) (λ what. ap (λ b. not b || is_in_time system what) e) (clocks.turn_of system c t).rows

timeless-ends : (shifts : Shifts) (thread : ℕ) → (c : ℕ) (what : What) → ends_round thread what ≡ false → ends_round thread (later_what (shift_of shifts c) what) ≡ false
timeless-ends shifts thread c (row.Round x number response) h = h
timeless-ends shifts thread c (row.Stop x why k until) h = h
timeless-ends shifts thread c (row.Release x) h = h
timeless-ends shifts thread c (row.Run x) h = h
timeless-ends shifts thread c (row.Signal x note badge) h = h
timeless-ends shifts thread c (row.Arrive note badge maker) h = h
timeless-ends shifts thread c (row.Wake x note word until) h = h
timeless-ends shifts thread c (row.Hold note word) h = h
timeless-ends shifts thread c (row.Got x note word) h = h
timeless-ends shifts thread c (row.Order context) h = h
timeless-ends shifts thread c (row.Interrupt source note badge) h = h

-- rounds of a thread end on its own core alone
ends-at-home : (system : System) (thread c : ℕ) (what : What) → IsOfOwn system c what → (core_of system (thread_part system thread) ≡ c → ⊥) → ends_round thread what ≡ false
ends-at-home system thread c (row.Round x number response) own away = by (x == thread) refl
  where
    same : (a b : ℕ) → (a == b) ≡ true → b ≡ a
    same a b e = grind (arith, nat_tests)

    by : (b : Bool) → (x == thread) ≡ b → b ≡ false
    by true e = absurd (away (ap (λ y. core_of system (thread_part system y)) (same x thread e) ∙ own.home))
    by false e = refl
ends-at-home system thread c (row.Stop x why k until) own away = refl
ends-at-home system thread c (row.Release x) own away = refl
ends-at-home system thread c (row.Run x) own away = refl
ends-at-home system thread c (row.Signal x note badge) own away = refl
ends-at-home system thread c (row.Arrive note badge maker) own away = refl
ends-at-home system thread c (row.Wake x note word until) own away = refl
ends-at-home system thread c (row.Hold note word) own away = refl
ends-at-home system thread c (row.Got x note word) own away = refl
ends-at-home system thread c (row.Order context) own away = refl
ends-at-home system thread c (row.Interrupt source note badge) own away = refl

pub no-round-ends-again : NoRoundEndsAgain
no-round-ends-again system group shifts a well recurs thread own first horizon =
    all-turns (λ row. NotThen row.moment row.what) system well (suc horizon) (λ t c l known. by t c known (core_of system (thread_part system thread) == c) refl (nat_le a t) refl)
  where
    NotThen : ℕ → What → Type 0
    NotThen t what = (nat_le a t && ends_round thread what) ≡ false

    same : (a b : ℕ) → (a == b) ≡ true → a ≡ b
    same a b e = grind (arith, nat_tests)

    differ : (a b : ℕ) → (a == b) ≡ false → a ≡ b → ⊥
    differ a b e f = grind (arith, nat_tests)

    come : (t : ℕ) → a ≤ t → nat_le a t ≡ true
    come t l = grind (arith, nat_tests)

    -- on the cores of the group
    never : (t c : ℕ) → a ≤ t → c < system.cores → group c ≡ true → AllByRecursion (λ what. ends_round thread what ≡ false) (clocks.turn_of system c t).rows
    never =
        forever system group shifts a well recurs (λ c what. ends_round thread what ≡ false) (timeless-ends shifts thread) a (omega arith)
        (λ t c more l known _. all-map (NotThen t) (λ what. ends_round thread what ≡ false) (λ what h. ap (λ b. b && ends_round thread what) (sym (come t more)) ∙ h) (clocks.turn_of system c t).rows
        (each-turn (λ row. NotThen row.moment row.what) system well (suc (a + shifts.by)) t c (omega (arith, l)) known first))

    by : (t c : ℕ) → c < system.cores → (home : Bool) → (core_of system (thread_part system thread) == c) ≡ home → (b : Bool) → nat_le a t ≡ b → AllByRecursion (NotThen t) (clocks.turn_of system c t).rows
    by t c known home e false f = all-true (NotThen t) (λ what. ap (λ b. b && ends_round thread what) f) (clocks.turn_of system c t).rows
    by t c known true e true f =
        all-map (λ what. ends_round thread what ≡ false) (NotThen t) (λ what h. ap (λ b. b && ends_round thread what) f ∙ h) (clocks.turn_of system c t).rows
        (never t c (grind (arith, nat_tests)) known (ap group (sym (same (core_of system (thread_part system thread)) c e)) ∙ own))
    by t c known false e true f =
        all-map (IsOfOwn system c) (NotThen t) (λ what h. ap (λ b. b && ends_round thread what) f ∙ ends-at-home system thread c what h (differ (core_of system (thread_part system thread)) c e))
        (clocks.turn_of system c t).rows (rows-of-own system well c t known)
