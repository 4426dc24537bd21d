-- Sources whose dates continue have them later, date by date.
use Rattle.std.proofs.Common.{◌≡◌, ℕ, zero, suc, ◌+◌, ◌-◌, ◌*◌, ◌/◌, ◌<◌, ◌≤◌, ◌⊎◌, inl, inr, Bool, true, false, cond, List, [], ◌∷◌, ◌++◌, length, get_or, take, map, refl, sym, ap, subst, ◌∙◌, Option, Some, None, arith}
use Rattle.std.specs.Prelude.{◌==◌, nat_le, filter}
use Rattle.std.specs.List.{AllByRecursion}
use Rattle.std.proofs.lemmas.Bool.Decides.{nat_tests}
use Rattle.std.proofs.lemmas.Bool.{cases_lt}
use Rattle.std.proofs.lemmas.List.{take_more, take_all}
use Rattle.std.proofs.Math.Nat.{mul-le-mul_right, div-add-mod}
use Rattle.mcs_script.specs.Script.{never, left_after}
use Rattle.mcs_system.specs.declared.part.Beat.{Beat}
use Rattle.mcs_system.specs.System.{System, note_part, source_part}
use Rattle.mcs_core.specs.Alarms.{alarm_of, is_at_home, rung, rings, past, before_moment}
use Rattle.mcs_core.specs.declared.alarm.Alarm.{Alarm}
use Rattle.mcs_ever.specs.Closed.{has}
use Rattle.mcs_ever.specs.Later.{later_alarm}
use Rattle.mcs_ever_again.specs.Sources.{AreEndless, AreOver, GoOn, OwnGoOn, AlarmsAreLater}

-- one alarm, after a moment has passed, and before a moment
abbrev one_past : ℕ → Alarm → Alarm
one_past t alarm = cond (rings t alarm) (rung alarm) alarm

abbrev one_before : ℕ → Alarm → Alarm
one_before zero alarm = alarm
one_before (suc t) alarm = one_past t (one_before t alarm)

before-cons : (t : ℕ) (alarm : Alarm) (alarms : List Alarm) → before_moment t (alarm ∷ alarms) ≡ one_before t alarm ∷ before_moment t alarms
before-cons zero alarm alarms = refl
before-cons (suc t) alarm alarms = ap (past t) (before-cons t alarm alarms)

before-none : (t : ℕ) → before_moment t [] ≡ []
before-none zero = refl
before-none (suc t) = ap (past t) (before-none t)

-- multiples of a period
module _ (source note badge period : ℕ) (some : 1 ≤ period) where
  abbrev with_date : Option ℕ → ℕ → Alarm
  with_date date left = record { source = source; note = note; badge = badge; date = date; period = period; left = left }

  -- dates without end: the next date is the first plus a multiple of the period. It is at most a
  -- period away once the first has come
  abbrev endless : ℕ → Alarm
  endless date = with_date (Some date) never

  record IsEndless (first t : ℕ) (alarm : Alarm) : Type 0 where
    k : ℕ
    is : alarm ≡ endless (first + k * period)
    low : t ≤ first + k * period
    high : (k ≡ 0) ⊎ (first + k * period < t + period)

  endless-next : (first t : ℕ) (alarm : Alarm) → IsEndless first t alarm → IsEndless first (suc t) (one_past t alarm)
  endless-next first t alarm h = subst (λ (x : Alarm). IsEndless first (suc t) (one_past t x)) (sym h.is) (by (nat_le (first + h.k * period) t) refl h.high)
    where
      more : (first k period : ℕ) → first + k * period + period ≡ first + (k + 1) * period
      more first k period = omega arith

      by : (b : Bool) → nat_le (first + h.k * period) t ≡ b → (h.k ≡ 0) ⊎ (first + h.k * period < t + period) →
          IsEndless first (suc t) (cond b (endless (first + h.k * period + period)) (endless (first + h.k * period)))
      by true e high =
          let come : first + h.k * period ≤ t = grind (arith, nat_tests) in
          let l = h.low in
          let next = more first h.k period in
          record { k = h.k + 1; is = ap endless next; low = omega (arith, l, some, next); high = inr (omega (arith, come, next)) }
      by false e (inl none) =
          let not_yet : t < first + h.k * period = grind (arith, nat_tests) in
          record { k = h.k; is = refl; low = omega (arith, not_yet); high = inl none }
      by false e (inr near) =
          let not_yet : t < first + h.k * period = grind (arith, nat_tests) in
          record { k = h.k; is = refl; low = omega (arith, not_yet); high = inr (omega (arith, near)) }

  endless-at : (first t : ℕ) → IsEndless first t (one_before t (endless first))
  endless-at first zero = let e : first ≡ first + 0 * period = omega arith in record { k = 0; is = ap endless e; low = omega arith; high = inl refl }
  endless-at first (suc t) = endless-next first t (one_before t (endless first)) (endless-at first t)

  -- within a period there is one multiple
  same-multiple : (first from m a b : ℕ) → from ≤ first + a * period → first + a * period < from + period →
      from + m * period ≤ first + b * period → first + b * period < from + m * period + period → first + b * period ≡ first + a * period + m * period
  same-multiple first from m a b la ha lb hb = by (cases_lt b (a + m)) (cases_lt (a + m) b)
    where
      times : (a m p : ℕ) → (a + m) * p ≡ a * p + m * p
      times a m p = omega arith

      once : (b p : ℕ) → (b + 1) * p ≡ b * p + p
      once b p = omega arith

      by : (b < a + m) ⊎ (a + m ≤ b) → (a + m < b) ⊎ (b ≤ a + m) → first + b * period ≡ first + a * period + m * period
      by (inl less) other =
          let l : (b + 1) * period ≤ (a + m) * period = mul-le-mul_right period (omega (arith, less)) in
          absurd (omega (arith, l, la, ha, lb, hb, times a m period, once b period))
      by (inr more) (inl less) =
          let l : (a + m + 1) * period ≤ b * period = mul-le-mul_right period (omega (arith, less)) in
          absurd (omega (arith, l, la, ha, lb, hb, times a m period, once (a + m) period))
      by (inr more) (inr few) =
          let same : b ≡ a + m = omega (arith, more, few) in
          ap (λ n. first + n * period) same ∙ omega (arith, times a m period)

  near : (first k t : ℕ) → first ≤ t → (k ≡ 0) ⊎ (first + k * period < t + period) → first + k * period < t + period
  near first k t begun (inl none) = let e : first + k * period ≡ first + 0 * period = ap (λ n. first + n * period) none in omega (arith, e, begun, some)
  near first k t begun (inr l) = l

  endless-later : (first from m : ℕ) → first ≤ from → one_before (from + m * period) (endless first) ≡ later_alarm (m * period) (one_before from (endless first))
  endless-later first from m begun =
      let a = endless-at first from in
      let b = endless-at first (from + m * period) in
      b.is
      ∙ ap endless
      (same-multiple first from m a.k b.k a.low (near first a.k from begun a.high) b.low (near first b.k (from + m * period) (omega (arith, begun)) b.high))
      ∙ sym (ap (later_alarm (m * period)) a.is)

  -- n dates after the first one: once the last has come there is no next one
  abbrev over : Alarm
  over = with_date None 0

  record IsLeft (first n t : ℕ) (alarm : Alarm) : Type 0 where
    k : ℕ
    within : k ≤ n
    is : alarm ≡ with_date (Some (first + k * period)) (n - k)
    low : t ≤ first + k * period

  abbrev IsCounted : ℕ → ℕ → ℕ → Alarm → Type 0
  IsCounted first n t alarm = IsLeft first n t alarm ⊎ (alarm ≡ over)

  -- it rings
  last-rung : (date left : ℕ) → left ≡ 0 → rung (with_date (Some date) left) ≡ over
  last-rung date left e = ap (λ n. rung (with_date (Some date) n)) e

  next-rung : (date left : ℕ) → 1 ≤ left → left < never → rung (with_date (Some date) left) ≡ with_date (Some (date + period)) (left - 1)
  next-rung date left l few =
      ap (λ b. with_date (cond b None (Some (date + period))) (left_after 1 left)) some_left
      ∙ ap (λ b. with_date (Some (date + period)) (cond b left (left - 1))) ends
    where
      some_left : (left == 0) ≡ false
      some_left = grind (arith, nat_tests)

      ends : nat_le never left ≡ false
      ends = grind (arith, nat_tests)

  counted-next : (first n t : ℕ) (alarm : Alarm) → n < never → IsCounted first n t alarm → IsCounted first n (suc t) (one_past t alarm)
  counted-next first n t alarm few (inr ended) = inr (ap (one_past t) ended)
  counted-next first n t alarm few (inl h) =
      subst (λ (x : Alarm). IsCounted first n (suc t) (one_past t x)) (sym h.is) (by (nat_le date t) refl)
    where
      date : ℕ
      date = first + h.k * period

      more : (first k period : ℕ) → first + k * period + period ≡ first + (k + 1) * period
      more first k period = omega arith

      rung-so : date ≤ t → (h.k < n) ⊎ (n ≤ h.k) → IsCounted first n (suc t) (rung (with_date (Some date) (n - h.k)))
      rung-so come (inl less) =
          let next = more first h.k period in
          let l = h.low in
          let left : n - h.k - 1 ≡ n - (h.k + 1) = omega arith in
          inl (record {
            k = h.k + 1;
            within = omega (arith, less);
            is = next-rung date (n - h.k) (omega (arith, less)) (omega (arith, few)) ∙ ap (λ d. with_date (Some d) (n - h.k - 1)) next ∙ ap (with_date (Some (first + (h.k + 1) * period))) left;
            low = omega (arith, l, some, next);
          })
      rung-so come (inr last) = inr (last-rung date (n - h.k) (omega (arith, last)))

      by : (b : Bool) → nat_le date t ≡ b → IsCounted first n (suc t) (cond b (rung (with_date (Some date) (n - h.k))) (with_date (Some date) (n - h.k)))
      by true e = rung-so (grind (arith, nat_tests)) (cases_lt h.k n)
      by false e =
          let not_yet : t < first + h.k * period = grind (arith, nat_tests) in
          inl (record { k = h.k; within = h.within; is = refl; low = omega (arith, not_yet) })

  counted-at : (first n t : ℕ) → n < never → IsCounted first n t (one_before t (with_date (Some first) n))
  counted-at first n zero few =
      inl (record {
        k = 0;
        within = omega arith;
        is = ap (λ date. with_date (Some date) n) (let e : first ≡ first + 0 * period = omega arith in e) ∙ ap (with_date (Some (first + 0 * period))) (let e : n ≡ n - 0 = omega arith in e);
        low = omega arith;
      })
  counted-at first n (suc t) few = counted-next first n t (one_before t (with_date (Some first) n)) few (counted-at first n t few)

  over-at : (first n t : ℕ) → n < never → first + n * period < t → one_before t (with_date (Some first) n) ≡ over
  over-at first n t few past = by (counted-at first n t few)
    where
      by : IsCounted first n t (one_before t (with_date (Some first) n)) → one_before t (with_date (Some first) n) ≡ over
      by (inr ended) = ended
      by (inl h) =
          let l : h.k * period ≤ n * period = mul-le-mul_right period h.within in
          let m = h.low in
          absurd (omega (arith, l, m, past))

  over-later : (first n from by : ℕ) → n < never → first + n * period < from →
      one_before (from + by) (with_date (Some first) n) ≡ later_alarm by (one_before from (with_date (Some first) n))
  over-later first n from by few past =
      over-at first n (from + by) few (omega (arith, past)) ∙ sym (ap (later_alarm by) (over-at first n from few past))

-- the alarm of a beat
module _ (system : System) (from by : ℕ) where
  abbrev IsLaterOf : Beat → Type 0
  IsLaterOf beat = one_before (from + by) (alarm_of system beat) ≡ later_alarm by (one_before from (alarm_of system beat))

  pub beat-later : (beat : Beat) → GoOn from by beat → IsLaterOf beat
  beat-later beat h = by-dates h.dates
    where
      s : ℕ
      s = beat.source

      n : ℕ
      n = (source_part system beat.source).note

      b : ℕ
      b = (source_part system beat.source).badge

      alarm : ℕ → Alarm
      alarm left = with_date s n b beat.period h.period (Some beat.first) left

      is-later : (left : ℕ) → cond (beat.count == 0) never (beat.count - 1) ≡ left →
          one_before (from + by) (alarm left) ≡ later_alarm by (one_before from (alarm left)) → IsLaterOf beat
      is-later left e f =
          let P : ℕ → Type 0 = λ left. one_before (from + by) (alarm left) ≡ later_alarm by (one_before from (alarm left)) in
          subst P (sym e) f

      none : (count : ℕ) → count ≡ 0 → (count == 0) ≡ true
      none count e = grind (arith, nat_tests)

      counted : (count : ℕ) → 1 ≤ count → (count == 0) ≡ false
      counted count e = grind (arith, nat_tests)

      by-dates : AreEndless from by beat ⊎ AreOver from beat → IsLaterOf beat
      by-dates (inl d) =
          let q = div-add-mod by beat.period in
          let e : by / beat.period * beat.period ≡ by = omega (arith, q, d.multiple) in
          let P : ℕ → Type 0 = λ time. one_before (from + time) (alarm never) ≡ later_alarm time (one_before from (alarm never)) in
          is-later never (ap (λ b. cond b never (beat.count - 1)) (none beat.count d.endless))
          (subst P e (endless-later s n b beat.period h.period beat.first from (by / beat.period) d.begun))
      by-dates (inr d) =
          let few : beat.count - 1 < never = (let l = d.few in let k = d.some in omega (arith, l, k)) in
          is-later (beat.count - 1) (ap (λ b. cond b never (beat.count - 1)) (counted beat.count d.some))
          (over-later s n b beat.period h.period beat.first (beat.count - 1) from by few d.over)

  -- all beats at home on a core of the group
  module _ (group : List Bool) where
    abbrev pub AllGoOn : List Beat → Type 0
    AllGoOn beats = AllByRecursion (OwnGoOn system group from by) beats

    beats-later : (core : ℕ) → has group core ≡ true → (beats : List Beat) → AllGoOn beats →
        before_moment (from + by) (map (alarm_of system) (filter (is_at_home system core) beats))
        ≡ map (later_alarm by) (before_moment from (map (alarm_of system) (filter (is_at_home system core) beats)))
    beats-later core own [] h = before-none (from + by) ∙ sym (ap (map (later_alarm by)) (before-none from))
    beats-later core own (beat ∷ beats) h = at (is_at_home system core beat) refl (beats-later core own beats h.1)
      where
        others : List Alarm
        others = map (alarm_of system) (filter (is_at_home system core) beats)

        both : (a b : Alarm) (xs ys : List Alarm) → a ≡ b → xs ≡ ys → a ∷ xs ≡ b ∷ ys
        both a b xs ys e f = cc

        at : (home : Bool) → is_at_home system core beat ≡ home → before_moment (from + by) others ≡ map (later_alarm by) (before_moment from others) →
            before_moment (from + by) (map (alarm_of system) (cond home (beat ∷ filter (is_at_home system core) beats) (filter (is_at_home system core) beats)))
            ≡ map (later_alarm by) (before_moment from (map (alarm_of system) (cond home (beat ∷ filter (is_at_home system core) beats) (filter (is_at_home system core) beats))))
        at true e i =
            before-cons (from + by) (alarm_of system beat) others
            ∙ both _ _ _ _ (beat-later beat (h.0 core own e)) i
            ∙ sym (ap (map (later_alarm by)) (before-cons from (alarm_of system beat) others))
        at false e i = i

    pub all-later : AllGoOn system.beats → AlarmsAreLater system group from by
    all-later h core own = beats-later core own system.beats h

    all-more : (xs : List Beat) (x : Beat) → AllGoOn xs → OwnGoOn system group from by x → AllGoOn (xs ++ x ∷ [])
    all-more [] x h g = (g, tt)
    all-more (y ∷ ys) x h g = (h.0, all-more ys x h.1 g)

    -- one beat more
    pub go-on-more : (i : ℕ) (beat : Beat) → i < length system.beats → beat ≡ get_or system.beats i beat → AllGoOn (take i system.beats) →
        OwnGoOn system group from by beat → AllGoOn (take (i + 1) system.beats)
    go-on-more i beat within at h g =
        subst AllGoOn (sym (take_more system.beats i beat within ∙ ap (λ (x : Beat). take i system.beats ++ x ∷ []) (sym at))) (all-more (take i system.beats) beat h g)

    pub go-on-all : (i : ℕ) → length system.beats ≤ i → AllGoOn (take i system.beats) → AllGoOn system.beats
    go-on-all i l h = subst AllGoOn (take_all i system.beats l) h

-- a beat that is at home elsewhere
pub go-on-elsewhere : (system : System) (group : List Bool) (from by : ℕ) (beat : Beat) → has group (note_part system (source_part system beat.source).note).core ≡ false →
    OwnGoOn system group from by beat
go-on-elsewhere system group from by beat other core own home =
    absurd (never-both (sym own ∙ ap (has group) (same (note_part system (source_part system beat.source).note).core core home) ∙ other))
  where
    never-both : true ≡ false → ⊥
    never-both e = cc

    same : (a b : ℕ) → (a == b) ≡ true → b ≡ a
    same a b e = grind (arith, nat_tests)
