-- The alarms of a core: which ring, and when the next one does.
use Rattle.std.proofs.Common.{◌≡◌, ℕ, zero, suc, ◌+◌, ◌-◌, ◌^◌, ◌<◌, ◌≤◌, Bool, true, false, cond, List, [], ◌∷◌, length, refl, sym, ap, subst, ◌∙◌, arith}
use Rattle.std.specs.Prelude.{◌==◌, nat_le, nat_lt, filter, map, All, Option, Some, None}
use Rattle.std.specs.List.{AllByRecursion}
use Rattle.std.proofs.lemmas.Bool.Decides.{nat_tests}
use Rattle.mcs_ticks.specs.Soonest.{sooner, HasCome}
use Rattle.mcs_system.specs.declared.part.Beat.{Beat}
use Rattle.mcs_system.specs.System.{System, no_source}
use Rattle.mcs_system.specs.WellFormed.{IsWellFormed, IsBeat}
use Rattle.mcs_core.specs.Alarms.{alarm_of, is_at_home, alarms_of, later_by, rung, has_come, rings, ringing, past, before_moment, alarms_at, first_date, first_ringing, with_first_rung, IsFrom, IsAlarm, AreAlarms, AreShort}
use Rattle.mcs_core.specs.Busy.{IsFirst}
use Rattle.mcs_core.specs.declared.alarm.Alarm.{Alarm}
use Rattle.mcs_core.specs.stored.Places.{alarm_at, AreSilent, IsFirstPlace}
use Rattle.mcs_core.proofs.Counts.{either}
use Rattle.mcs_core.proofs.Firsts.{not_le}

-- the next date of an alarm is later, or never
rung-date : (t period left : ℕ) (o : Option ℕ) → IsFrom t o → 1 ≤ period → has_come t o ≡ true → has_come t (cond (left == 0) None (later_by period o)) ≡ false
rung-date t period left None l some e = cc
rung-date t period left (Some date) l some e = by (left == 0)
  where
    by : (a : Bool) → has_come t (cond a None (Some (date + period))) ≡ false
    by true = refl
    by false = grind (arith, nat_tests)

rung-later : (notes t : ℕ) (alarm : Alarm) → IsAlarm notes t alarm → rings t alarm ≡ true → rings t (rung alarm) ≡ false
rung-later notes t alarm h e = rung-date t alarm.period alarm.left alarm.date h.later h.period e

-- a date that has not come is after this moment
from-next : (t : ℕ) (o : Option ℕ) → IsFrom t o → has_come t o ≡ false → IsFrom (t + 1) o
from-next t None l e = tt
from-next t (Some date) l e = grind (arith, nat_tests)

from-now : (t : ℕ) (o : Option ℕ) → IsFrom (t + 1) o → IsFrom t o
from-now t None l = tt
from-now t (Some date) l = omega (arith, l)

rung-alarm : (notes t : ℕ) (alarm : Alarm) → IsAlarm notes t alarm → rings t alarm ≡ true → IsAlarm notes (t + 1) (rung alarm)
rung-alarm notes t alarm h e = record {
  later = from-later (cond (alarm.left == 0) None (later_by alarm.period alarm.date)) (rung-from alarm.date h.later);
  period = h.period;
  known = h.known;
}
  where
    from-later : (o : Option ℕ) → IsFrom (t + 1) o → IsFrom (t + 1) o
    from-later o f = f

    rung-from : (o : Option ℕ) → IsFrom t o → IsFrom (t + 1) (cond (alarm.left == 0) None (later_by alarm.period o))
    rung-from None l = by (alarm.left == 0)
      where
        by : (a : Bool) → IsFrom (t + 1) (cond a None None)
        by true = tt
        by false = tt
    rung-from (Some date) l = by (alarm.left == 0)
      where
        by : (a : Bool) → IsFrom (t + 1) (cond a None (Some (date + alarm.period)))
        by true = tt
        by false = omega (arith, l, h.period)

now-alarm : (notes t : ℕ) (alarm : Alarm) → IsAlarm notes (t + 1) alarm → IsAlarm notes t alarm
now-alarm notes t alarm h = record { later = from-now t alarm.date h.later; period = h.period; known = h.known }

-- the alarms stay alarms
pub past-alarms : (notes t : ℕ) (alarms : List Alarm) → AreAlarms notes t alarms → AreAlarms notes (t + 1) (past t alarms)
past-alarms notes t [] h = tt
past-alarms notes t (alarm ∷ alarms) h = (by (rings t alarm) refl, past-alarms notes t alarms h.1)
  where
    by : (b : Bool) → rings t alarm ≡ b → IsAlarm notes (t + 1) (cond b (rung alarm) alarm)
    by true e = rung-alarm notes t alarm h.0 e
    by false e = record { later = from-next t alarm.date h.0.later e; period = h.0.period; known = h.0.known }

-- the first that rings, and the others
pub record IsFirstRinging (notes t : ℕ) (alarm : Alarm) (alarms : List Alarm) : Type 0 where
  pub now : ringing t alarms ≡ alarm ∷ ringing t (with_first_rung t alarms)
  pub later : past t alarms ≡ past t (with_first_rung t alarms)
  pub are : AreAlarms notes t (with_first_rung t alarms)
  pub known : alarm.note < notes

pub first-ringing-is : (notes t : ℕ) (alarm : Alarm) (alarms : List Alarm) → AreAlarms notes t alarms → first_ringing t alarms ≡ Some alarm → IsFirstRinging notes t alarm alarms
first-ringing-is notes t alarm [] h e = cc
first-ringing-is notes t alarm (x ∷ xs) h e = by (rings t x) refl e (first-ringing-is notes t alarm xs h.1)
  where
    by : (b : Bool) → rings t x ≡ b → cond b (Some x) (first_ringing t xs) ≡ Some alarm → (first_ringing t xs ≡ Some alarm → IsFirstRinging notes t alarm xs) → IsFirstRinging notes t alarm (x ∷ xs)
    by true f g others =
        let same : x ≡ alarm = cc in
        let next = rung-later notes t x h.0 f in
        record {
          now = rw (f, next) (ap (λ (y : Alarm). y ∷ ringing t xs) same);
          later = rw (f, next) refl;
          are = rw f (now-alarm notes t (rung x) (rung-alarm notes t x h.0 f), h.1);
          known = let P : Alarm → Type 0 = λ y. y.note < notes in subst P same h.0.known;
        }
    by false f g others =
        let i = others g in
        record {
          now = rw (f, f) i.now;
          later = rw (f, f) (ap (λ (ys : List Alarm). x ∷ ys) i.later);
          are = rw f (h.0, i.are);
          known = i.known;
        }

pub none-ringing : (t : ℕ) (alarms : List Alarm) → first_ringing t alarms ≡ None → ringing t alarms ≡ []
none-ringing t [] e = refl
none-ringing t (x ∷ xs) e = by (rings t x) refl e (none-ringing t xs)
  where
    by : (b : Bool) → rings t x ≡ b → cond b (Some x) (first_ringing t xs) ≡ None → (first_ringing t xs ≡ None → ringing t xs ≡ []) → ringing t (x ∷ xs) ≡ []
    by true f g others = cc
    by false f g others = rw f (others g)

pub none-rung : (t : ℕ) (alarms : List Alarm) → first_ringing t alarms ≡ None → with_first_rung t alarms ≡ alarms
none-rung t [] e = refl
none-rung t (x ∷ xs) e = by (rings t x) e (none-rung t xs)
  where
    by : (b : Bool) → cond b (Some x) (first_ringing t xs) ≡ None → (first_ringing t xs ≡ None → with_first_rung t xs ≡ xs) → cond b (rung x ∷ xs) (x ∷ with_first_rung t xs) ≡ x ∷ xs
    by true g others = cc
    by false g others = ap (λ (ys : List Alarm). x ∷ ys) (others g)

-- if no alarm rings, they stay as they are
pub past-none : (t : ℕ) (alarms : List Alarm) → ringing t alarms ≡ [] → past t alarms ≡ alarms
past-none t [] e = refl
past-none t (x ∷ xs) e = by (rings t x) e (past-none t xs)
  where
    by : (b : Bool) → cond b (x ∷ ringing t xs) (ringing t xs) ≡ [] → (ringing t xs ≡ [] → past t xs ≡ xs) → cond b (rung x) x ∷ past t xs ≡ x ∷ xs
    by true g others = cc
    by false g others = ap (λ (ys : List Alarm). x ∷ ys) (others g)

-- of a system: its alarms are alarms at each moment
pub alarms-are : (system : System) (c : ℕ) → IsWellFormed system → (t : ℕ) → AreAlarms (length system.notes) t (alarms_at system c t)
alarms-are system c w zero = first system.beats w.sources.beats
  where
    first : (beats : List Beat) → All (IsBeat system) beats → AreAlarms (length system.notes) zero (map (alarm_of system) (filter (is_at_home system c) beats))
    first [] h = tt
    first (beat ∷ beats) h =
        let i = first beats (λ k d l. h (suc k) d (omega arith)) in
        let b : IsBeat system beat = h 0 beat (omega arith) in
        let s = w.sources.sources beat.source no_source b.source in
        either (λ (xs : List Beat). AreAlarms (length system.notes) zero (map (alarm_of system) xs)) (is_at_home system c beat) (beat ∷ filter (is_at_home system c) beats) (filter (is_at_home system c) beats)
        (record { later = omega arith; period = b.period.0; known = s.note }, i) i
alarms-are system c w (suc t) = let P : ℕ → Type 0 = λ u. AreAlarms (length system.notes) u (past t (alarms_at system c t)) in let e : t + 1 ≡ suc t = omega arith in subst P e (past-alarms (length system.notes) t (alarms_at system c t) (alarms-are system c w t))

pub ringing-known : (notes t : ℕ) (alarms : List Alarm) → AreAlarms notes t alarms → AllByRecursion (λ (alarm : Alarm). alarm.note < notes) (ringing t alarms)
ringing-known notes t [] h = tt
ringing-known notes t (x ∷ xs) h =
    let i = ringing-known notes t xs h.1 in
    either (AllByRecursion (λ (alarm : Alarm). alarm.note < notes)) (rings t x) (x ∷ ringing t xs) (ringing t xs) (h.0.known, i) i

-- if no alarm rings for a while, they stay as they are
pub stay-still : (n clock : ℕ) (beats : List Alarm) → ((m : ℕ) → m < n → ringing (clock + m) (before_moment (clock + m) beats) ≡ []) → before_moment (clock + n) beats ≡ before_moment clock beats
stay-still zero clock beats h = let e : clock + zero ≡ clock = omega arith in ap (λ t. before_moment t beats) e
stay-still (suc n) clock beats h =
    let e : clock + suc n ≡ suc (clock + n) = omega arith in
    ap (λ t. before_moment t beats) e ∙ past-none (clock + n) (before_moment (clock + n) beats) (h n (omega arith))
    ∙ stay-still n clock beats (λ m l. h m (omega arith))

-- before the soonest date none rings, and at it one does
abbrev IsAfter : ℕ → Option ℕ → Type 0
IsAfter t None = Unit {0}
IsAfter t (Some date) = t < date

after-both : (t : ℕ) (a b : Option ℕ) → IsAfter t (sooner a b) → IsAfter t a × IsAfter t b
after-both t None b h = (tt, h)
after-both t (Some x) None h = (h, tt)
after-both t (Some x) (Some y) h = by (nat_lt y x) refl h
  where
    by : (c : Bool) → nat_lt y x ≡ c → t < cond c y x → (t < x) × (t < y)
    by true e f = (grind (arith, nat_tests), f)
    by false e f = (f, grind (arith, nat_tests))

not-come : (t : ℕ) (o : Option ℕ) → IsAfter t o → has_come t o ≡ false
not-come t None h = refl
not-come t (Some date) h = grind (arith, nat_tests)

none-before : (t : ℕ) (alarms : List Alarm) → IsAfter t (first_date alarms) → ringing t alarms ≡ []
none-before t [] h = refl
none-before t (x ∷ xs) h =
    let b = after-both t x.date (first_date xs) h in
    rw (not-come t x.date b.0) (none-before t xs b.1)

one-rings : (t : ℕ) (alarms : List Alarm) → first_date alarms ≡ Some t → ringing t alarms ≡ [] → ⊥
one-rings t [] e f = cc
one-rings t (x ∷ xs) e f = by x.date (first_date xs) refl e (one-rings t xs) f
  where
    by : (a b : Option ℕ) → first_date xs ≡ b → sooner a b ≡ Some t → (first_date xs ≡ Some t → ringing t xs ≡ [] → ⊥) → cond (has_come t a) (x ∷ ringing t xs) (ringing t xs) ≡ [] → ⊥
    by None b g h i f = i (g ∙ h) f
    by (Some d) None g h i f = let k : d ≡ t = cc in let c : nat_le d t ≡ true = grind (arith, nat_tests) in (let q = rw c at f in cc)
    by (Some d) (Some b) g h i f = test (nat_lt b d) refl h
      where
        test : (z : Bool) → nat_lt b d ≡ z → Some (cond z b d) ≡ Some t → ⊥
        test true y p = let k : b ≡ t = cc in let c : nat_le d t ≡ false = grind (arith, nat_tests) in i (g ∙ ap Some k) (rw c at f)
        test false y p = let k : d ≡ t = cc in let c : nat_le d t ≡ true = grind (arith, nat_tests) in (let q = rw c at f in cc)

from-first : (notes t : ℕ) (alarms : List Alarm) (date : ℕ) → AreAlarms notes t alarms → first_date alarms ≡ Some date → t ≤ date
from-first notes t [] date h e = cc
from-first notes t (x ∷ xs) date h e = by x.date (first_date xs) refl h.0.later e (from-first notes t xs date h.1)
  where
    by : (a b : Option ℕ) → first_date xs ≡ b → IsFrom t a → sooner a b ≡ Some date → (first_date xs ≡ Some date → t ≤ date) → t ≤ date
    by None b g l f others = others (g ∙ f)
    by (Some d) None g l f others = let k : d ≡ date = cc in omega (arith, l)
    by (Some d) (Some b) g l f others = test (nat_lt b d) f
      where
        test : (z : Bool) → Some (cond z b d) ≡ Some date → t ≤ date
        test true p = let k : b ≡ date = cc in others (g ∙ ap Some k)
        test false p = let k : d ≡ date = cc in omega (arith, l)

-- the first moment at which one rings
pub first-alarm : (notes clock : ℕ) (beats : List Alarm) → AreAlarms notes clock (before_moment clock beats) → ((m : ℕ) → first_date (before_moment clock beats) ≡ Some m → m ≤ 2 ^ 42) →
    IsFirst clock (λ n. ringing (clock + n) (before_moment (clock + n) beats) ≡ []) (first_date (before_moment clock beats))
first-alarm notes clock beats h small = by (first_date (before_moment clock beats)) refl
  where
    still : (d : Option ℕ) → first_date (before_moment clock beats) ≡ d → (n : ℕ) → ((m : ℕ) → m < n → IsAfter (clock + m) d) → before_moment (clock + n) beats ≡ before_moment clock beats
    still d e zero k = let f : clock + zero ≡ clock = omega arith in ap (λ t. before_moment t beats) f
    still d e (suc n) k =
        let i = still d e n (λ m l. k m (omega arith)) in
        let f : clock + suc n ≡ suc (clock + n) = omega arith in
        ap (λ t. before_moment t beats) f
        ∙ past-none (clock + n) (before_moment (clock + n) beats) (rw i (none-before (clock + n) (before_moment clock beats) (rw e (k n (omega arith)))))
        ∙ i

    at-date : (n date : ℕ) → clock + n ≡ date → before_moment (clock + n) beats ≡ before_moment clock beats → ringing (clock + n) (before_moment (clock + n) beats) ≡ [] → ringing date (before_moment clock beats) ≡ []
    at-date n date there s f =
        let R : List Alarm → Type 0 = λ xs. ringing (clock + n) xs ≡ [] in
        let Q : ℕ → Type 0 = λ t. ringing t (before_moment clock beats) ≡ [] in
        subst Q there (subst R s f)

    by : (d : Option ℕ) → first_date (before_moment clock beats) ≡ d → IsFirst clock (λ n. ringing (clock + n) (before_moment (clock + n) beats) ≡ []) d
    by None e = λ n l. rw (still None e n (λ m k. tt)) (none-before (clock + n) (before_moment clock beats) (rw e tt))
    by (Some date) e =
        let from = from-first notes clock (before_moment clock beats) date h e in
        let there : clock + (date - clock) ≡ date = omega arith in
        let after : (n : ℕ) → n ≤ date - clock → (m : ℕ) → m < n → clock + m < date = λ n l m k. omega arith in (
          date - clock,
          sym there,
          small date e,
          λ n l. rw (still (Some date) e n (after n (omega arith))) (none-before (clock + n) (before_moment clock beats) (rw e (let i : clock + n < date = omega arith in i))),
          λ f. one-rings date (before_moment clock beats) e (at-date (date - clock) date there (still (Some date) e (date - clock) (after (date - clock) (omega arith))) f),
        )

-- no alarm before a place rings, and the one at it does
pub at-place : (t : ℕ) (alarms : List Alarm) (k : ℕ) → AreSilent t alarms k → k < length alarms → rings t (alarm_at alarms k) ≡ true → IsFirstPlace t alarms (Some k)
at-place t [] k h l e = absurd (omega arith)
at-place t (x ∷ xs) zero h l e = (omega arith, e, rw e refl, rw e refl, h)
at-place t (x ∷ xs) (suc k) h l e =
    let silent : rings t x ≡ false = h 0 (omega arith) in
    let i = at-place t xs k (λ n m. h (suc n) (omega arith)) (omega arith) e in
    (l, e, rw silent i.2, rw silent (ap (λ (ys : List Alarm). x ∷ ys) i.3), h)

pub no-place : (t : ℕ) (alarms : List Alarm) → AreSilent t alarms (length alarms) → first_ringing t alarms ≡ None
no-place t [] h = refl
no-place t (x ∷ xs) h = let silent : rings t x ≡ false = h 0 (omega arith) in rw silent (no-place t xs (λ n m. h (suc n) (omega arith)))

-- no alarm has too long a period
pub alarms-short : (system : System) (c : ℕ) → IsWellFormed system → AreShort (alarms_of system c)
alarms-short system c w = first system.beats w.sources.beats
  where
    first : (beats : List Beat) → All (IsBeat system) beats → AreShort (map (alarm_of system) (filter (is_at_home system c) beats))
    first [] h = tt
    first (beat ∷ beats) h =
        let i = first beats (λ k d l. h (suc k) d (omega arith)) in
        let b : IsBeat system beat = h 0 beat (omega arith) in
        either (λ (xs : List Beat). AreShort (map (alarm_of system) xs)) (is_at_home system c beat) (beat ∷ filter (is_at_home system c) beats) (filter (is_at_home system c) beats)
        (b.period.1, i) i

-- if the soonest date has not come no alarm rings
first-none : (t : ℕ) (alarms : List Alarm) → ringing t alarms ≡ [] → first_ringing t alarms ≡ None
first-none t [] e = refl
first-none t (x ∷ xs) e = by (rings t x) e (first-none t xs)
  where
    by : (b : Bool) → cond b (x ∷ ringing t xs) (ringing t xs) ≡ [] → (ringing t xs ≡ [] → first_ringing t xs ≡ None) → cond b (Some x) (first_ringing t xs) ≡ None
    by true g others = cc
    by false g others = others g

pub none-come : (t : ℕ) (alarms : List Alarm) → (HasCome t (first_date alarms) → ⊥) → first_ringing t alarms ≡ None
none-come t alarms h = first-none t alarms (none-before t alarms (after (first_date alarms) h))
  where
    after : (o : Option ℕ) → (HasCome t o → ⊥) → IsAfter t o
    after None f = tt
    after (Some date) f = not_le date t f
