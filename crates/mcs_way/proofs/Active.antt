-- A thread that has the origin has started and is not done.
use Rattle.std.proofs.Common.{◌≡◌, ◌∙◌, ℕ, zero, suc, ◌+◌, ◌-◌, ◌≤◌, ◌<◌, ◌⊎◌, inl, inr, Bool, true, false, List, [], ◌∷◌, length, map, get_or, set, Option, Some, None, refl, sym, ap, subst, arith}
use Rattle.std.specs.Prelude.{if◌then◌else◌, ◌==◌, nat_le}
use Rattle.std.proofs.lemmas.Bool.{cases_eq, cases_lt, eq-eqb, ne_eqb}
use Rattle.std.proofs.lemmas.Bool.Decides.{nat_tests}
use Rattle.std.proofs.lemmas.List.{get_or-set_same, get_or-set_other, get_or_past, set_past}
use Rattle.mcs_ticks.specs.declared.row.Row.{Row}
use Rattle.mcs_ticks.specs.declared.row.What.{What}
use Rattle.mcs_ticks.specs.declared.row.What.TheVariants as row
use Rattle.mcs_ticks.specs.declared.row.Why.{Why}
use Rattle.mcs_ticks.specs.declared.row.Why.TheVariants as why
use Rattle.mcs_system.specs.System.{System}
use Rattle.mcs_core.specs.Clock.{schedule}
use Rattle.mcs_verdict.specs.declared.standing.Standing.{Standing}
use Rattle.mcs_verdict.specs.declared.standing.Standing.TheVariants.{Pending, Ready, Running, Throttled, Blocked, AtServer, Done}
use Rattle.mcs_verdict.specs.declared.standing.Stood.{Stood}
use Rattle.mcs_verdict.specs.Account.{standing_of, since_of, subject}
use Rattle.mcs_verdict.specs.Findings.{UpTo, InOrder, past_of}
use Rattle.mcs_verdict.specs.Standing.{tells, telling, standing_at, standing_after, standing_until}
use Rattle.mcs_verdict.specs.Stood.{counted, stood_for}
use Rattle.mcs_verdict.proofs.Orders.{since-up_to}
use Rattle.mcs_verdict_laws.proofs.Order.{in_order}
use Rattle.mcs_chain.specs.declared.step.Gone.{Gone}
use Rattle.mcs_chain.specs.Answers.{gone_after}
use Rattle.mcs_chain.specs.Moves.{moves_by}
use Rattle.mcs_chain.specs.Steps.{goer}
use Rattle.mcs_way.specs.declared.aim.Aim.{Aim}
use Rattle.mcs_way.specs.Trace.{Trace, since_of as since_at}
use Rattle.mcs_way.specs.Course.{Course, moved}
use Rattle.mcs_way.specs.Stances.{stood_since, IsNext, AreNext}
use Rattle.mcs_way.specs.Trail.{aim_of, course_of, stood_by}
use Rattle.mcs_way.specs.laws.Legs.{LegsAreActive}
use Rattle.mcs_way.proofs.Kept.{has_ended, has_ended_by, IsKept, AreKept, schedule-kept}
use Rattle.mcs_way.proofs.Legs.{AreFine, moved-fine, none-fine}
use Rattle.mcs_way.proofs.Nexts.{carried-next, carried-same}

-- a thread that has started and is not done
abbrev IsAtIt : Standing → Type 0
IsAtIt Ready = Unit {0}
IsAtIt Running = Unit {0}
IsAtIt Throttled = Unit {0}
IsAtIt Blocked = Unit {0}
IsAtIt AtServer = Unit {0}
IsAtIt Pending = ⊥
IsAtIt Done = ⊥

abbrev IsWhole : Stood → Type 0
IsWhole stood = (stood.pending ≡ 0) × (stood.done ≡ 0)

more-whole : (s : Standing) (k : ℕ) (stood : Stood) → IsAtIt s → IsWhole stood → IsWhole (counted s k stood)
more-whole Ready k stood at p = p
more-whole Running k stood at p = p
more-whole Throttled k stood at p = p
more-whole Blocked k stood at p = p
more-whole AtServer k stood at p = p
more-whole Pending k stood at p = absurd at
more-whole Done k stood at p = absurd at

-- in each tick from then on, as far as its telling rows say
abbrev From : ℕ → List Row → Type 0
From from rows = (t : ℕ) → from ≤ t → IsAtIt (standing_at t rows)

abbrev Since : Option ℕ → List Row → Type 0
Since None rows = Unit {0}
Since (Some from) rows = From from rows

stood-whole : (from : ℕ) (rows : List Row) (n : ℕ) → From from rows → IsWhole (stood_for rows from n)
stood-whole from rows zero h = (refl, refl)
stood-whole from rows (suc n) h =
    more-whole (standing_at (from + n) rows) 1 (stood_for rows from n) (h (from + n) (omega arith)) (stood-whole from rows n h)

since-whole : (thread : ℕ) (past : List Row) (moment : ℕ) (from : Option ℕ) → Since from (telling thread past)
    → IsWhole (stood_since thread past moment from)
since-whole thread past moment None h = (refl, refl)
since-whole thread past moment (Some from) h = stood-whole from (telling thread past) (moment - from) h

if-both : {A : Type 0} (P : A → Type 0) (b : Bool) (x y : A) → P x → P y → P (if b then x else y)
if-both P true x y h k = h
if-both P false x y h k = k

if-true : {A : Type 0} (P : A → Type 0) (b : Bool) (x y : A) → b ≡ true → P x → P (if b then x else y)
if-true P true x y e h = h
if-true P false x y e h = absurd (cc)

-- one more row, after which its thread has started and is not done
from-told : (thread from : ℕ) (r : Row) (past : List Row) → IsAtIt (standing_after r.what) → From from (telling thread past)
    → From from (telling thread (r ∷ past))
from-told thread from r past at h =
    if-both (From from) (tells thread r.what) (r ∷ telling thread past) (telling thread past)
    (λ t l. if-both IsAtIt (nat_le r.moment t) (standing_after r.what) (standing_at t (telling thread past)) at (h t l)) h

since-told : (thread : ℕ) (from : Option ℕ) (r : Row) (past : List Row) → IsAtIt (standing_after r.what) → Since from (telling thread past)
    → Since from (telling thread (r ∷ past))
since-told thread None r past at h = tt
since-told thread (Some from) r past at h = from-told thread from r past at h

-- it takes the origin by a row that says how it stands
le-true : (a b : ℕ) → a ≤ b → nat_le a b ≡ true
le-true a b h = grind (arith, nat_tests)

from-own : (thread : ℕ) (r : Row) (past : List Row) → tells thread r.what ≡ true → IsAtIt (standing_after r.what)
    → From r.moment (telling thread (r ∷ past))
from-own thread r past own at =
    if-true (From r.moment) (tells thread r.what) (r ∷ telling thread past) (telling thread past) own
    (λ t l. if-true IsAtIt (nat_le r.moment t) (standing_after r.what) (standing_at t (telling thread past)) (le-true r.moment t l) at)

-- or while it runs
at-latest : (t : ℕ) (rows : List Row) → since_of rows ≤ t → standing_at t rows ≡ standing_of rows
at-latest t [] h = refl
at-latest t (r ∷ rows) h = if-true (λ s. s ≡ standing_after r.what) (nat_le r.moment t) (standing_after r.what) (standing_at t rows) (le-true r.moment t h) refl

from-run : (m : ℕ) (rows : List Row) → since_of rows ≤ m → standing_of rows ≡ Running → From m rows
from-run m rows h runs = λ t l. subst IsAtIt (sym (at-latest t rows (omega (arith, h, l)) ∙ runs)) tt

-- it has the origin as before, gets it with this row, or loses it
since-next : (thread : ℕ) (before after : Option ℕ) (r : Row) (past : List Row) → IsNext r.moment before after
    → IsAtIt (standing_after r.what) → From r.moment (telling thread (r ∷ past)) → Since before (telling thread past)
    → Since after (telling thread (r ∷ past))
since-next thread None None r past e at new h = tt
since-next thread (Some before) None r past e at new h = tt
since-next thread None (Some from) r past e at new h = subst (λ f. From f (telling thread (r ∷ past))) (sym e) new
since-next thread (Some before) (Some from) r past e at new h =
    subst (λ f. From f (telling thread (r ∷ past))) (sym e) (from-told thread before r past at h)

-- of all threads, by the rows so far
record AreActiveAt (past : List Row) (spots : List (Option Trace)) : Type 0 where
  since : (x : ℕ) → Since (since_at (get_or spots x None)) (telling x past)
  ended : (x : ℕ) → has_ended x past ≡ true → since_at (get_or spots x None) ≡ None

get-none : {X : Type 0} (xs : List X) (k : ℕ) → since_at (get_or (map (λ _. None) xs) k None) ≡ None
get-none [] k = refl
get-none (x ∷ xs) zero = refl
get-none (x ∷ xs) (suc k) = get-none xs k

-- a row after which the same threads have the origin, and no other job has ended
active-same : (r : Row) (past : List Row) (spots : List (Option Trace)) → IsAtIt (standing_after r.what)
    → ((x : ℕ) → has_ended x (r ∷ past) ≡ has_ended x past) → AreActiveAt past spots → AreActiveAt (r ∷ past) spots
active-same r past spots at same h =
    record {
      since = λ x. since-told x (since_at (get_or spots x None)) r past at (h.since x);
      ended = λ x e. h.ended x (sym (same x) ∙ e);
    }

-- a row by which its thread takes a word
active-taken : (y : ℕ) (r : Row) (past : List Row) (old new : List (Option Trace)) → AreNext y r.moment old new → IsAtIt (standing_after r.what)
    → From r.moment (telling y (r ∷ past)) → ((x : ℕ) → (b : Bool) → has_ended_by x r.what b ≡ (if y == x then false else b))
    → AreActiveAt past old → AreActiveAt (r ∷ past) new
active-taken y r past old new next at fresh taken h = record { since = λ x. by x (cases_eq x y); ended = λ x e. over x (cases_eq x y) e }
  where
    by : (x : ℕ) → (x ≡ y) ⊎ (x ≡ y → ⊥) → Since (since_at (get_or new x None)) (telling x (r ∷ past))
    by x (inl e) =
        subst (λ k. Since (since_at (get_or new k None)) (telling k (r ∷ past))) (sym e)
        (since-next y (since_at (get_or old y None)) (since_at (get_or new y None)) r past next.own at fresh (h.since y))
    by x (inr differ) =
        subst (λ s. Since s (telling x (r ∷ past))) (sym (next.others x differ)) (since-told x (since_at (get_or old x None)) r past at (h.since x))

    over : (x : ℕ) → (x ≡ y) ⊎ (x ≡ y → ⊥) → has_ended x (r ∷ past) ≡ true → since_at (get_or new x None) ≡ None
    over x (inl e) over_is =
        let none : (if y == x then false else has_ended x past) ≡ true = sym (taken x (has_ended x past)) ∙ over_is in
        let own : (y == x) ≡ true = eq-eqb y x (sym e) in
        absurd (contrary (y == x) own none)
      where
        contrary : (b : Bool) → b ≡ true → (if b then false else has_ended x past) ≡ true → ⊥
        contrary true e f = cc
        contrary false e f = cc
    over x (inr differ) over_is =
        let other : (y == x) ≡ false = ne_eqb y x (λ e. differ (sym e)) in
        let before : has_ended x past ≡ true =
        sym (ap (λ b. if b then false else has_ended x past) other) ∙ sym (taken x (has_ended x past)) ∙ over_is
        in
        next.others x differ ∙ h.ended x before

-- the end of a job
clear-none : (spots : List (Option Trace)) (y : ℕ) → get_or (set spots y None) y None ≡ None
clear-none spots y = by (cases_lt y (length spots))
  where
    by : (y < length spots) ⊎ (length spots ≤ y) → get_or (set spots y None) y None ≡ None
    by (inl l) = get_or-set_same spots y None None l
    by (inr l) = ap (λ xs. get_or xs y None) (set_past spots y None l) ∙ get_or_past spots y None l

active-ended : (y number response : ℕ) (r : Row) (past : List Row) (spots : List (Option Trace)) → r.what ≡ row.Round y number response
    → AreActiveAt past spots → AreActiveAt (r ∷ past) (set spots y None)
active-ended y number response r past spots what h = record { since = λ x. by x (cases_eq x y); ended = λ x e. over x (cases_eq x y) e }
  where
    at : IsAtIt (standing_after r.what)
    at = subst (λ w. IsAtIt (standing_after w)) (sym what) tt

    by : (x : ℕ) → (x ≡ y) ⊎ (x ≡ y → ⊥) → Since (since_at (get_or (set spots y None) x None)) (telling x (r ∷ past))
    by x (inl e) =
        subst (λ k. Since (since_at (get_or (set spots y None) k None)) (telling k (r ∷ past))) (sym e)
        (subst (λ s. Since (since_at s) (telling y (r ∷ past))) (sym (clear-none spots y)) tt)
    by x (inr differ) =
        subst (λ s. Since (since_at s) (telling x (r ∷ past))) (sym (get_or-set_other spots y x None None differ))
        (since-told x (since_at (get_or spots x None)) r past at (h.since x))

    over : (x : ℕ) → (x ≡ y) ⊎ (x ≡ y → ⊥) → has_ended x (r ∷ past) ≡ true → since_at (get_or (set spots y None) x None) ≡ None
    over x (inl e) over_is =
        subst (λ k. since_at (get_or (set spots y None) k None) ≡ None) (sym e) (ap since_at (clear-none spots y))
    over x (inr differ) over_is =
        let other : (y == x) ≡ false = ne_eqb y x (λ e. differ (sym e)) in
        let before : has_ended x past ≡ true =
        sym (ap (λ w. has_ended_by x w (has_ended x past)) what ∙ ap (λ b. if b then true else has_ended x past) other) ∙ over_is
        in
        ap since_at (get_or-set_other spots y x None None differ) ∙ h.ended x before

-- a thread that stops
until-at : (until : Option ℕ) → IsAtIt (standing_until until)
until-at None = tt
until-at (Some date) = tt

active-done : (y charged : ℕ) (until : Option ℕ) (r : Row) (past : List Row) (spots : List (Option Trace)) → r.what ≡ row.Stop y why.Done charged until
    → has_ended y past ≡ true → AreActiveAt past spots → AreActiveAt (r ∷ past) spots
active-done y charged until r past spots what kept h =
    record { since = λ x. by x (cases_eq x y); ended = λ x e. h.ended x (sym (ap (λ w. has_ended_by x w (has_ended x past)) what) ∙ e) }
  where
    by : (x : ℕ) → (x ≡ y) ⊎ (x ≡ y → ⊥) → Since (since_at (get_or spots x None)) (telling x (r ∷ past))
    by x (inl e) =
        subst (λ k. Since (since_at (get_or spots k None)) (telling k (r ∷ past))) (sym e)
        (subst (λ s. Since s (telling y (r ∷ past))) (sym (h.ended y kept)) tt)
    by x (inr differ) =
        let other : tells x r.what ≡ false = ap (tells x) what ∙ ne_eqb y x (λ e. differ (sym e)) in
        subst (λ rows. Since (since_at (get_or spots x None)) rows)
        (sym (ap (λ b. if b then r ∷ telling x past else telling x past) other)) (h.since x)

same-by : (r : Row) (past : List Row) (spots : List (Option Trace)) (what : What) → r.what ≡ what → IsAtIt (standing_after what)
    → ((x : ℕ) (b : Bool) → has_ended_by x what b ≡ b) → AreActiveAt past spots → AreActiveAt (r ∷ past) spots
same-by r past spots what e at same h =
    active-same r past spots (subst (λ w. IsAtIt (standing_after w)) (sym e) at)
    (λ x. ap (λ w. has_ended_by x w (has_ended x past)) e ∙ same x (has_ended x past)) h

stopped : (y : ℕ) (cause : Why) (charged : ℕ) (until : Option ℕ) (r : Row) (past : List Row) (spots : List (Option Trace))
    → r.what ≡ row.Stop y cause charged until → IsKept past (row.Stop y cause charged until) → AreActiveAt past spots → AreActiveAt (r ∷ past) spots
stopped y why.Done charged until r past spots e kept h = active-done y charged until r past spots e kept h
stopped y why.Wait charged until r past spots e kept h = same-by r past spots (row.Stop y why.Wait charged until) e tt (λ x b. refl) h
stopped y why.Call charged until r past spots e kept h = same-by r past spots (row.Stop y why.Call charged until) e tt (λ x b. refl) h
stopped y why.Spent charged until r past spots e kept h = same-by r past spots (row.Stop y why.Spent charged until) e (until-at until) (λ x b. refl) h
stopped y why.Yield charged until r past spots e kept h = same-by r past spots (row.Stop y why.Yield charged until) e (until-at until) (λ x b. refl) h
stopped y why.Preempt charged until r past spots e kept h = same-by r past spots (row.Stop y why.Preempt charged until) e (until-at until) (λ x b. refl) h
stopped y why.Order charged until r past spots e kept h = same-by r past spots (row.Stop y why.Order charged until) e (until-at until) (λ x b. refl) h

either : (b : Bool) (c d : Course) (spots : List (Option Trace)) → c.carried ≡ spots → d.carried ≡ spots → (if b then c else d).carried ≡ spots
either true c d spots e f = e
either false c d spots e f = f

-- one more row
module _ (system : System) (aim : Aim) (all : List Gone) (r : Row) (stood : Stood) (c : Course) (past : List Row) where
  abbrev Next : What → Type 0
  Next what =
      r.what ≡ what → UpTo r.moment past → IsKept past what → AreActiveAt past c.carried
      → AreActiveAt (r ∷ past) (moved aim r stood (moves_by system all r what) c).carried

  row-same : (what : What) → subject what ≡ None → IsAtIt (standing_after what) → ((x : ℕ) (b : Bool) → has_ended_by x what b ≡ b) → Next what
  row-same what none at same e up kept h =
      subst (AreActiveAt (r ∷ past)) (sym (carried-same system aim all r stood c what none)) (same-by r past c.carried what e at same h)

  row-active : (what : What) → Next what
  row-active (row.Release x) e up kept h = same-by r past c.carried (row.Release x) e tt (λ x b. refl) h
  row-active (row.Run x) e up kept h = same-by r past c.carried (row.Run x) e tt (λ x b. refl) h
  row-active (row.Stop x cause charged until) e up kept h = stopped x cause charged until r past c.carried e kept h
  row-active (row.Signal x note badge) e up kept h = row-same (row.Signal x note badge) refl tt (λ x b. refl) e up kept h
  row-active (row.Arrive note badge maker) e up kept h = row-same (row.Arrive note badge maker) refl tt (λ x b. refl) e up kept h
  row-active (row.Hold note word) e up kept h = row-same (row.Hold note word) refl tt (λ x b. refl) e up kept h
  row-active (row.Order context) e up kept h = row-same (row.Order context) refl tt (λ x b. refl) e up kept h
  row-active (row.Interrupt source note badge) e up kept h = row-same (row.Interrupt source note badge) refl tt (λ x b. refl) e up kept h
  row-active (row.Wake x note word until) e up kept h =
      let at : IsAtIt (standing_after r.what) = subst (λ w. IsAtIt (standing_after w)) (sym e) (until-at until) in
      active-taken x r past c.carried _ (carried-next system aim all r stood c (row.Wake x note word until) x refl) at
      (from-own x r past (ap (tells x) e ∙ eq-eqb x x refl) at) (λ k b. ap (λ w. has_ended_by k w b) e) h
  row-active (row.Got x note word) e up kept h =
      let at : IsAtIt (standing_after r.what) = subst (λ w. IsAtIt (standing_after w)) (sym e) tt in
      let fresh : From r.moment (telling x (r ∷ past)) =
      subst (From r.moment) (sym (ap (λ b. if b then r ∷ telling x past else telling x past) (ap (tells x) e)))
      (from-run r.moment (telling x past) (since-up_to x r.moment past up) kept)
      in
      active-taken x r past c.carried _ (carried-next system aim all r stood c (row.Got x note word) x refl) at fresh
      (λ k b. ap (λ w. has_ended_by k w b) e) h
  row-active (row.Round x number response) e up kept h =
      subst (AreActiveAt (r ∷ past)) (sym (either _ _ _ (set c.carried x None) refl refl)) (active-ended x number response r past c.carried e h)

by-whole : (past : List Row) (moment : ℕ) (thread : Option ℕ) (c : Course) → AreActiveAt past c.carried → IsWhole (stood_by past moment thread c)
by-whole past moment None c h = (refl, refl)
by-whole past moment (Some x) c h = since-whole x past moment (since_at (get_or c.carried x None)) (h.since x)

-- rows that keep to the rules, in the order of their times, the latest first
abbrev AreFit : List Row → Type 0
AreFit [] = Unit {0}
AreFit (r ∷ past) = UpTo r.moment past × IsKept past r.what × AreFit past

fit : (past rows : List Row) → AreFit past → InOrder past rows → AreKept past rows → AreFit (past_of past rows)
fit past [] h o k = h
fit past (r ∷ rows) h o k = fit (r ∷ past) rows (o.0, k.0, h) o.1 k.1

course-active : (system : System) (aim : Aim) (past : List Row) → AreFit past
    → AreActiveAt past (course_of system aim past).carried × AreFine (course_of system aim past)
course-active system aim [] h = (
  record {
    since = λ x. subst (λ s. Since s []) (sym (get-none system.threads x)) tt;
    ended = λ x e. get-none system.threads x;
  },
  none-fine system,
)
course-active system aim (r ∷ past) h =
    let before = course-active system aim past h.2 in
    let c = course_of system aim past in
    let all = gone_after system past in
    let stood = stood_by past r.moment (goer r.what) c in (
      row-active system aim all r stood c past r.what refl h.0 h.1 before.0,
      moved-fine aim r stood (moves_by system all r r.what) c (by-whole past r.moment (goer r.what) c before.0) before.1,
    )

pub legs-active : LegsAreActive
legs-active system well horizon answer =
    let rows = schedule system horizon in
    (course-active system (aim_of system answer) (past_of [] rows) (fit [] rows tt (in_order system well horizon).0 (schedule-kept system well horizon))).1.way
