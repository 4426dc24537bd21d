-- In which ticks a thread is ready or running: if it is in none of a period it never is.
use Rattle.std.proofs.Common.{◌≡◌, ℕ, zero, suc, ◌+◌, ◌-◌, ◌<◌, ◌≤◌, ◌⊎◌, inl, inr, Bool, true, false, cond, List, [], ◌∷◌, refl, sym, ap, subst, ◌∙◌, Option, Some, None, arith}
use Rattle.std.specs.Prelude.{nat_lt, nat_le}
use Rattle.std.specs.List.{AllByRecursion}
use Rattle.std.proofs.lemmas.Bool.Decides.{nat_tests}
use Rattle.mcs_ticks.specs.declared.row.Row.{Row}
use Rattle.mcs_ticks.specs.declared.row.What.{What}
use Rattle.mcs_system.specs.System.{System, thread_part, core_of}
use Rattle.mcs_system.specs.WellFormed.{IsWellFormed}
use Rattle.mcs_core.specs.Clock.{turn_of}
use Rattle.mcs_verdict.specs.declared.standing.Standing.{Standing}
use Rattle.mcs_verdict.specs.declared.standing.Standing.TheVariants.{Pending, Ready, Running, Throttled, Blocked, AtServer, Done}
use Rattle.mcs_verdict.specs.declared.standing.Stood.{Stood}
use Rattle.mcs_verdict.specs.Account.{standing_of, since_of}
use Rattle.mcs_verdict.specs.Activation.{is_active, or_tick, first_for}
use Rattle.mcs_verdict.specs.Standing.{tells, telling, standing_after, standing_at}
use Rattle.mcs_verdict.specs.Stood.{counted, stood_for}
use Rattle.mcs_verdict.proofs.Orders.{since-up_to}
use Rattle.mcs_verdict_laws.proofs.Order.{in_order}
use Rattle.mcs_verdict_laws.proofs.Overdue.{standing-before}
use Rattle.mcs_ever.specs.Later.{later_what}
use Rattle.mcs_ever.specs.Recurs.{Shifts, shift_of, Recurs}
use Rattle.mcs_ever.specs.laws.Home.{IsOfOwn}
use Rattle.mcs_ever_found.specs.Recurs.{past_before}
use Rattle.mcs_ever_found.proofs.Accounts.{after-later}
use Rattle.mcs_ever_found.proofs.Alike.{at}
use Rattle.mcs_ever_found.proofs.Carried.{all-true, carried}
use Rattle.mcs_ever_found.proofs.Open.{none-some, tells-apart, tells-later}
use Rattle.mcs_ever_found.proofs.Quiet.{away-about}
use Rattle.mcs_ever_found.proofs.Twice.{twice}

-- the first tick in which it is
pub none-each : (rows : List Row) (b n i : ℕ) → first_for rows b n ≡ None → i < n → is_active (standing_at (b + i) rows) ≡ false
none-each rows b zero i e l = absurd (omega (arith, l))
none-each rows b (suc n) i e l = by (first_for rows b n) (is_active (standing_at (b + n) rows)) refl refl e (λ f m. none-each rows b n i f m)
  where
    by : (o : Option ℕ) (a : Bool) → first_for rows b n ≡ o → is_active (standing_at (b + n) rows) ≡ a → or_tick o a (b + n) ≡ None
        → (first_for rows b n ≡ None → i < n → is_active (standing_at (b + i) rows) ≡ false) → is_active (standing_at (b + i) rows) ≡ false
    by (Some k) a f g h rest = absurd (none-some k (sym h))
    by None true f g h rest = absurd (none-some (b + n) (sym h))
    by None false f g h rest = or (nat_lt i n) refl (λ m. rest f m)
      where
        or : (c : Bool) → nat_lt i n ≡ c → (i < n → is_active (standing_at (b + i) rows) ≡ false) → is_active (standing_at (b + i) rows) ≡ false
        or true k rest = rest (grind (arith, nat_tests))
        or false k rest =
            let low : n ≤ i = grind (arith, nat_tests) in
            let same : i ≡ n = omega (arith, low, l) in
            ap (λ i. is_active (standing_at (b + i) rows)) same ∙ g

pub each-none : (rows : List Row) (b n : ℕ) → ((i : ℕ) → i < n → is_active (standing_at (b + i) rows) ≡ false) → first_for rows b n ≡ None
each-none rows b zero h = refl
each-none rows b (suc n) h =
    ap (λ o. or_tick o (is_active (standing_at (b + n) rows)) (b + n)) (each-none rows b n (λ i l. h i (omega (arith, l))))
    ∙ ap (λ a. or_tick None a (b + n)) (h n (omega arith))

-- a first tick is one of them
pub first-cut : (rows : List Row) (b n k a : ℕ) → first_for rows b n ≡ Some a → k ≤ n → a < b + k → first_for rows b k ≡ Some a
first-cut rows b zero k a e l m = absurd (none-some a e)
first-cut rows b (suc n) k a e l m = by (first_for rows b n) (is_active (standing_at (b + n) rows)) refl e (λ f q. first-cut rows b n k a f q m) (nat_lt k (suc n)) refl
  where
    by : (o : Option ℕ) (c : Bool) → first_for rows b n ≡ o → or_tick o c (b + n) ≡ Some a
        → (first_for rows b n ≡ Some a → k ≤ n → first_for rows b k ≡ Some a) → (s : Bool) → nat_lt k (suc n) ≡ s → first_for rows b k ≡ Some a
    by o c f g rest false h =
        let low : suc n ≤ k = grind (arith, nat_tests) in
        let same : k ≡ suc n = omega (arith, low, l) in
        ap (first_for rows b) same ∙ e
    by (Some j) c f g rest true h = rest (f ∙ g) (let less : k < suc n = grind (arith, nat_tests) in omega (arith, less))
    by None false f g rest true h = absurd (none-some a g)
    by None true f g rest true h =
        let less : k < suc n = grind (arith, nat_tests) in
        let same : b + n ≡ a = some-is (b + n) a g in
        absurd (omega (arith, same, less, m))
      where
        some-is : (p q : ℕ) → Some p ≡ Some q → p ≡ q
        some-is p q e = cc

-- and lies among the ticks that are looked at
pub first-high : (rows : List Row) (b n a : ℕ) → first_for rows b n ≡ Some a → a < b + n
first-high rows b zero a e = absurd (none-some a e)
first-high rows b (suc n) a e = by (first_for rows b n) (is_active (standing_at (b + n) rows)) refl e (λ f. first-high rows b n a f)
  where
    some-is : (p q : ℕ) → Some p ≡ Some q → p ≡ q
    some-is p q e = cc

    by : (o : Option ℕ) (c : Bool) → first_for rows b n ≡ o → or_tick o c (b + n) ≡ Some a → (first_for rows b n ≡ Some a → a < b + n) → a < b + suc n
    by (Some j) c f g rest = let less = rest (f ∙ g) in omega (arith, less)
    by None true f g rest = let same = some-is (b + n) a g in omega (arith, same)
    by None false f g rest = absurd (none-some a g)

-- how many there are
more-one : (s : Standing) (stood : Stood) → (counted s 1 stood).ready + (counted s 1 stood).running ≡ stood.ready + stood.running + cond (is_active s) 1 0
more-one Pending stood = omega arith
more-one Ready stood = omega arith
more-one Running stood = omega arith
more-one Throttled stood = omega arith
more-one Blocked stood = omega arith
more-one AtServer stood = omega arith
more-one Done stood = omega arith

abbrev pub active_ticks : Stood → ℕ
active_ticks stood = stood.ready + stood.running

pub count-none : (rows : List Row) (b n i : ℕ) → active_ticks (stood_for rows b n) ≡ 0 → i < n → is_active (standing_at (b + i) rows) ≡ false
count-none rows b zero i e l = absurd (omega (arith, l))
count-none rows b (suc n) i e l =
    by (is_active (standing_at (b + n) rows)) refl (sym (more-one (standing_at (b + n) rows) (stood_for rows b n)) ∙ e) (λ f m. count-none rows b n i f m)
  where
    by : (a : Bool) → is_active (standing_at (b + n) rows) ≡ a → active_ticks (stood_for rows b n) + cond a 1 0 ≡ 0
        → (active_ticks (stood_for rows b n) ≡ 0 → i < n → is_active (standing_at (b + i) rows) ≡ false) → is_active (standing_at (b + i) rows) ≡ false
    by true f g rest = absurd (omega (arith, g))
    by false f g rest = or (nat_lt i n) refl
      where
        or : (c : Bool) → nat_lt i n ≡ c → is_active (standing_at (b + i) rows) ≡ false
        or true k = rest (omega (arith, g)) (grind (arith, nat_tests))
        or false k =
            let low : n ≤ i = grind (arith, nat_tests) in
            let same : i ≡ n = omega (arith, low, l) in
            ap (λ i. is_active (standing_at (b + i) rows)) same ∙ f

pub none-count : (rows : List Row) (b n : ℕ) → ((i : ℕ) → i < n → is_active (standing_at (b + i) rows) ≡ false) → active_ticks (stood_for rows b n) ≡ 0
none-count rows b zero h = refl
none-count rows b (suc n) h =
    more-one (standing_at (b + n) rows) (stood_for rows b n)
    ∙ ap (λ a. active_ticks (stood_for rows b n) + cond a 1 0) (h n (omega arith))
    ∙ (let rest = none-count rows b n (λ i l. h i (omega (arith, l))) in omega (arith, rest))

-- how a thread stands after these rows
abbrev pub last_standing : ℕ → List Row → Standing
last_standing x past = standing_of (telling x past)

standing-row : (x t c : ℕ) (what : What) (past : List Row) → last_standing x (at t c what ∷ past) ≡ cond (tells x what) (standing_after what) (last_standing x past)
standing-row x t c what past = by (tells x what)
  where
    by : (b : Bool) → standing_of (cond b (at t c what ∷ telling x past) (telling x past)) ≡ cond b (standing_after what) (standing_of (telling x past))
    by true = refl
    by false = refl

standing-apart : (x t c : ℕ) (what : What) (past : List Row) → tells x what ≡ false → last_standing x (at t c what ∷ past) ≡ last_standing x past
standing-apart x t c what past e = standing-row x t c what past ∙ ap (λ b. cond b (standing_after what) (last_standing x past)) e

-- at a moment no row is later
pub standing-now : (x t : ℕ) (rows : List Row) → since_of rows ≤ t → standing_at t rows ≡ standing_of rows
standing-now x t [] l = refl
standing-now x t (r ∷ rows) l = let e : nat_le r.moment t ≡ true = grind (arith, nat_tests) in ap (λ b. cond b (standing_after r.what) (standing_at t rows)) e

module _ (system : System) (well : IsWellFormed system) (x : ℕ) where
  -- how the thread stands in tick t
  abbrev pub stands : ℕ → Standing
  stands t = last_standing x (past_before system (suc t))

  -- by all rows up to a horizon from then on
  pub tick-stands : (h t : ℕ) → t ≤ h → standing_at t (telling x (past_before system (suc h))) ≡ stands t
  tick-stands h t l =
      carried system well x (suc t) (λ c what. Unit {0}) (λ past. standing_at t (telling x past) ≡ stands t)
      (λ c m what past k fact fits q. standing-before x m c t what past (omega (arith, k)) ∙ q)
      (λ m c k known. all-true (λ what. Unit {0}) (λ what. tt) (turn_of system c m).rows)
      (suc t) (suc h) (omega arith) (omega (arith, l))
      (standing-now x t (telling x (past_before system (suc t))) (since-up_to x t (past_before system (suc t)) (in_order system well t).1))

  module _ (group : ℕ → Bool) (shifts : Shifts) (from : ℕ) (recurs : Recurs system group shifts from) (mine : group (core_of system (thread_part system x)) ≡ true) where
    abbrev d : ℕ
    d = shifts.by

    abbrev first : Standing
    first = last_standing x (past_before system (from + shifts.by))

    abbrev Same : List Row → List Row → Type 0
    Same past past' = (last_standing x past' ≡ last_standing x past) ⊎ (last_standing x past' ≡ first)

    same-own : (c t : ℕ) (what : What) (past past' : List Row) → Unit {0} → Same past past'
        → Same (at t c what ∷ past) (at (t + shifts.by) c (later_what (shift_of shifts c) what) ∷ past')
    same-own c t what past past' fact q = by (tells x what) refl q
      where
        what' : What
        what' = later_what (shift_of shifts c) what

        after : last_standing x (at (t + shifts.by) c what' ∷ past') ≡ cond (tells x what) (standing_after what) (last_standing x past')
        after =
            standing-row x (t + shifts.by) c what' past'
            ∙ ap (λ b. cond b (standing_after what') (last_standing x past')) (tells-later (shift_of shifts c) x what)
            ∙ ap (λ s. cond (tells x what) s (last_standing x past')) (after-later (shift_of shifts c) what)

        by : (b : Bool) → tells x what ≡ b → Same past past' → Same (at t c what ∷ past) (at (t + shifts.by) c what' ∷ past')
        by true e q =
            inl (after ∙ ap (λ b. cond b (standing_after what) (last_standing x past')) e
            ∙ sym (standing-row x t c what past ∙ ap (λ b. cond b (standing_after what) (last_standing x past)) e))
        by false e (inl q) =
            inl (after ∙ ap (λ b. cond b (standing_after what) (last_standing x past')) e ∙ q ∙ sym (standing-apart x t c what past e))
        by false e (inr q) = inr (after ∙ ap (λ b. cond b (standing_after what) (last_standing x past')) e ∙ q)

    same-left : (c t : ℕ) (what : What) (past past' : List Row) → group c ≡ false → IsOfOwn system c what → Same past past' → Same (at t c what ∷ past) past'
    same-left c t what past past' away o (inl q) =
        inl (q ∙ sym (standing-apart x t c what past (tells-apart x what (away-about system group x c what mine away o))))
    same-left c t what past past' away o (inr q) = inr q

    same-right : (c t : ℕ) (what : What) (past past' : List Row) → group c ≡ false → IsOfOwn system c what → Same past past' → Same past (at t c what ∷ past')
    same-right c t what past past' away o (inl q) =
        inl (standing-apart x t c what past' (tells-apart x what (away-about system group x c what mine away o)) ∙ q)
    same-right c t what past past' away o (inr q) =
        inr (standing-apart x t c what past' (tells-apart x what (away-about system group x c what mine away o)) ∙ q)

    -- in a tick a period later it stands as it did, or as at the end of the first period
    ticks-later : (t : ℕ) → from ≤ t → (stands (t + d) ≡ stands t) ⊎ (stands (t + d) ≡ first)
    ticks-later t l =
        let all = twice system group shifts from well recurs (λ what. Unit {0}) Same same-own same-left same-right
        (λ m c k known own. all-true (λ what. Unit {0}) (λ what. tt) (turn_of system c m).rows) (suc t) (omega (arith, l)) (inr refl) in
        let e : suc t + d ≡ suc (t + d) = omega arith in
        let P : ℕ → Type 0 = λ n. (last_standing x (past_before system n) ≡ stands t) ⊎ (last_standing x (past_before system n) ≡ first) in
        subst P e all

    -- if it is ready or running in no tick of the period, it never is
    pub never-active : (b : ℕ) → b ≤ from → ((t : ℕ) → b ≤ t → t < from + shifts.by → is_active (stands t) ≡ false)
        → (t : ℕ) → b ≤ t → is_active (stands t) ≡ false
    never-active b low none t l = below (suc t) t (omega arith) l
      where
        some : 1 ≤ d
        some = recurs.some

        last : first ≡ stands (from + d - 1)
        last = let e : from + d ≡ suc (from + d - 1) = omega (arith, some) in ap (λ n. last_standing x (past_before system n)) e

        below : (n t : ℕ) → t < n → b ≤ t → is_active (stands t) ≡ false
        below zero t l m = absurd (omega (arith, l))
        below (suc n) t l m = by (below n (t - d)) (nat_lt t (from + d)) refl
          where
            by : (t - d < n → b ≤ t - d → is_active (stands (t - d)) ≡ false) → (c : Bool) → nat_lt t (from + d) ≡ c → is_active (stands t) ≡ false
            by rest true e = none t m (grind (arith, nat_tests))
            by rest false e =
                let k : from + d ≤ t = grind (arith, nat_tests) in
                let f : t - d + d ≡ t = omega (arith, k) in
                let P : ℕ → Type 0 = λ t. is_active (stands t) ≡ false in
                subst P f (or (ticks-later (t - d) (omega (arith, k))) (rest (omega (arith, l, k, some)) (omega (arith, k, low))))
              where
                or : (stands (t - d + d) ≡ stands (t - d)) ⊎ (stands (t - d + d) ≡ first) → is_active (stands (t - d)) ≡ false → is_active (stands (t - d + d)) ≡ false
                or (inl g) h = ap is_active g ∙ h
                or (inr g) h = ap is_active (g ∙ last) ∙ none (from + d - 1) (omega (arith, low, some)) (omega (arith, some))
