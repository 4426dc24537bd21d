-- The alarms of a core ring at the dates of their beats, as their closed form says.
use Rattle.std.proofs.Common.{◌≡◌, ◌⊎◌, inl, inr, ℕ, zero, suc, ◌+◌, ◌-◌, ◌*◌, ◌/◌, ◌%◌, ◌^◌, ◌<◌, ◌≤◌, Bool, true, false, cond, ◌==◌, ◌&&◌, List, [], ◌∷◌, map, refl, sym, ap, subst, ◌∙◌, arith}
use Rattle.std.specs.Prelude.{◌||◌, nat_le, nat_lt, filter, Some, None}
use Rattle.std.specs.List.{AllByRecursion}
use Rattle.std.proofs.lemmas.Bool.Decides.{nat_tests}
use Rattle.std.proofs.lemmas.Bool.{cases_lt}
use Rattle.std.proofs.lemmas.Nat.{div-mul-add, mod-mul-add, div-add-mod'}
use Rattle.std.proofs.Math.Nat.{mul-le-mul_right}
use Rattle.mcs_script.specs.Script.{never, left_after}
use Rattle.mcs_system.specs.declared.part.Beat.{Beat}
use Rattle.mcs_system.specs.System.{System}
use Rattle.mcs_system.specs.WellFormed.{IsWellFormed, IsBeat}
use Rattle.mcs_core.specs.Alarms.{alarm_of, is_at_home, later_by, rung, has_come, rings, ringing, past, before_moment, alarms_at}
use Rattle.mcs_core.specs.declared.alarm.Alarm.{Alarm}
use Rattle.mcs_laws.proofs.Ranges.{by_recursion}
use Rattle.mcs_server_laws.specs.Interrupts.{is_date}
use Rattle.mcs_server_laws.proofs.Tests.{all-filter}

-- the alarm of a beat before moment t
abbrev pub rung_if : ℕ → Alarm → Alarm
rung_if t alarm = cond (rings t alarm) (rung alarm) alarm

abbrev pub alarm_before : System → Beat → ℕ → Alarm
alarm_before system beat zero = alarm_of system beat
alarm_before system beat (suc t) = rung_if t (alarm_before system beat t)

past-map : (t : ℕ) (f : Beat → Alarm) (beats : List Beat) → past t (map f beats) ≡ map (λ beat. rung_if t (f beat)) beats
past-map t f [] = refl
past-map t f (beat ∷ beats) = ap (λ alarms. rung_if t (f beat) ∷ alarms) (past-map t f beats)

pub before-map : (system : System) (beats : List Beat) (t : ℕ) → before_moment t (map (alarm_of system) beats) ≡ map (λ beat. alarm_before system beat t) beats
before-map system beats zero = refl
before-map system beats (suc t) = ap (past t) (before-map system beats t) ∙ past-map t (λ beat. alarm_before system beat t) beats

-- a beat's dates as numbers: the first, the period and the count
module _ (first period count : ℕ) (some : 1 ≤ period) where
  abbrev is_due : ℕ → Bool
  is_due t = nat_le first t && ((t - first) % period == 0) && ((count == 0) || nat_lt ((t - first) / period) count)

  both : (a b c : Bool) → a ≡ true → b ≡ true → c ≡ true → (a && b && c) ≡ true
  both a b c e f g = rw (e, f, g) refl

  one_fails : (a b c : Bool) → (a ≡ true → b ≡ true → c ≡ true → ⊥) → (a && b && c) ≡ false
  one_fails true true true h = absurd (h refl refl refl)
  one_fails true true false h = refl
  one_fails true false c h = refl
  one_fails false b c h = refl

  -- the n-th date, from 0, is one
  nth-due : (t n : ℕ) → t ≡ first + n * period → (count ≡ 0) ⊎ (n < count) → is_due t ≡ true
  nth-due t n e h = both _ _ _ (grind (arith, nat_tests)) (mod-is ((t - first) % period) rest) (fewer h)
    where
      since : t - first ≡ n * period + 0
      since = omega (arith, e)

      rest : (t - first) % period ≡ 0
      rest = ap (λ m. m % period) since ∙ mod-mul-add n period 0 (omega arith)

      many : (t - first) / period ≡ n
      many = ap (λ m. m / period) since ∙ div-mul-add n period 0 (omega arith)

      mod-is : (m : ℕ) → m ≡ 0 → (m == 0) ≡ true
      mod-is m f = grind (arith, nat_tests)

      within : (a b : ℕ) → a < b → ((b == 0) || nat_lt a b) ≡ true
      within a b l = grind (arith, nat_tests)

      none : (a b : ℕ) → b ≡ 0 → ((b == 0) || nat_lt a b) ≡ true
      none a b f = grind (arith, nat_tests)

      fewer : (count ≡ 0) ⊎ (n < count) → ((count == 0) || nat_lt ((t - first) / period) count) ≡ true
      fewer (inl f) = none ((t - first) / period) count f
      fewer (inr l) = within ((t - first) / period) count (omega (arith, many, l))

  -- between two dates, or past the last one, there is none
  between : (t n q : ℕ) → q < n → t ≡ first + q * period → first + n * period < t + period → ⊥
  between t n q l e h = omega (arith, mul-le-mul_right {m = q + 1} {n = n} period (omega arith), e, h)

  pub quotient : (t : ℕ) → nat_le first t ≡ true → ((t - first) % period == 0) ≡ true → t ≡ first + (t - first) / period * period
  quotient t a b = omega (arith, div-add-mod' (t - first) period, least a, zero-is ((t - first) % period) b)
    where
      least : nat_le first t ≡ true → first ≤ t
      least a = grind (arith, nat_tests)

      zero-is : (m : ℕ) → (m == 0) ≡ true → m ≡ 0
      zero-is m b = grind (arith, nat_tests)

  -- n dates have passed, the last of them before t, and the next one comes after t
  early : (t n : ℕ) → t < first + n * period → (n ≡ 0) ⊎ (first + n * period < t + period) → is_due t ≡ false
  early t n l h = one_fails _ _ _ (λ a b c. no (quotient t a b) (cases_lt ((t - first) / period) n) h)
    where
      no : t ≡ first + (t - first) / period * period → ((t - first) / period < n) ⊎ (n ≤ (t - first) / period) → (n ≡ 0) ⊎ (first + n * period < t + period) → ⊥
      no e (inl less) (inl none) = omega (arith, less, none)
      no e (inl less) (inr last) = between t n ((t - first) / period) less e last
      no e (inr more) h = omega (arith, mul-le-mul_right {m = n} {n = (t - first) / period} period more, e, l)

  -- all of them have passed
  late : (t : ℕ) → 1 ≤ count → first + count * period < t + period → is_due t ≡ false
  late t l h = one_fails _ _ _ (λ a b c. between t count ((t - first) / period) (within ((t - first) / period) count l c) (quotient t a b) h)
    where
      within : (q n : ℕ) → 1 ≤ n → ((n == 0) || nat_lt q n) ≡ true → q < n
      within q n l c = grind (arith, nat_tests)

-- an alarm that comes next at the n-th date of its beat, from 0, before moment t
abbrev IsMore : ℕ → ℕ → ℕ → Type 0
IsMore n count left = ((never ≤ left) × ((count ≡ 0) ⊎ (never < count))) ⊎ ((left < never) × (left + n + 1 ≡ count))

record IsNext (beat : Beat) (alarm : Alarm) (t n : ℕ) : Type 0 where
  date : alarm.date ≡ Some (beat.first + n * beat.period)
  period : alarm.period ≡ beat.period
  later : t ≤ beat.first + n * beat.period
  last : (n ≡ 0) ⊎ (beat.first + n * beat.period < t + beat.period)
  more : IsMore n beat.count alarm.left

-- and one that comes no more
record IsOver (beat : Beat) (alarm : Alarm) (t : ℕ) : Type 0 where
  date : alarm.date ≡ None
  some : 1 ≤ beat.count
  last : beat.first + beat.count * beat.period < t + beat.period

abbrev IsKept : Beat → Alarm → ℕ → Type 0
IsKept beat alarm t = ((n : ℕ) × IsNext beat alarm t n) ⊎ IsOver beat alarm t

module _ (system : System) (beat : Beat) (some : 1 ≤ beat.period) where
  -- what an alarm rings is what its beat has at the moment
  rings-next : (t n : ℕ) (alarm : Alarm) → t ≤ never → IsNext beat alarm t n → rings t alarm ≡ is_date t beat
  rings-next t n alarm soon h = ap (has_come t) h.date ∙ by (cases_lt t (beat.first + n * beat.period))
    where
      endless : t ≡ beat.first + n * beat.period → IsMore n beat.count alarm.left → (beat.count ≡ 0) ⊎ (n < beat.count)
      endless e (inl (l, inl none)) = inl none
      endless e (inl (l, inr many)) = inr (omega (arith, mul-le-mul_right {m = 1} {n = beat.period} n some, e, soon, many))
      endless e (inr (l, counted)) = inr (omega (arith, counted))

      by : (t < beat.first + n * beat.period) ⊎ (beat.first + n * beat.period ≤ t) → has_come t (Some (beat.first + n * beat.period)) ≡ is_date t beat
      by (inl less) = not-come t (beat.first + n * beat.period) less ∙ sym (early beat.first beat.period beat.count some t n less h.last)
        where
          not-come : (t date : ℕ) → t < date → nat_le date t ≡ false
          not-come t date l = grind (arith, nat_tests)
      by (inr reached) =
          let e : t ≡ beat.first + n * beat.period = omega (arith, reached, h.later) in
          come t (beat.first + n * beat.period) reached ∙ sym (nth-due beat.first beat.period beat.count some t n e (endless e h.more))
        where
          come : (t date : ℕ) → date ≤ t → nat_le date t ≡ true
          come t date l = grind (arith, nat_tests)

  rings-over : (t : ℕ) (alarm : Alarm) → IsOver beat alarm t → rings t alarm ≡ is_date t beat
  rings-over t alarm h = ap (has_come t) h.date ∙ sym (late beat.first beat.period beat.count some t h.some h.last)

  rings-kept : (t : ℕ) (alarm : Alarm) → t ≤ never → IsKept beat alarm t → rings t alarm ≡ is_date t beat
  rings-kept t alarm soon (inl (n, h)) = rings-next t n alarm soon h
  rings-kept t alarm soon (inr h) = rings-over t alarm h

  -- at first
  first-kept : IsKept beat (alarm_of system beat) 0
  first-kept = inl (0, record { date = ap Some (omega arith); period = refl; later = omega arith; last = inl refl; more = by (beat.count == 0) refl })
    where
      is-zero : (m : ℕ) → (m == 0) ≡ true → m ≡ 0
      is-zero m f = grind (arith, nat_tests)

      not-zero : (m : ℕ) → (m == 0) ≡ false → 1 ≤ m
      not-zero m f = grind (arith, nat_tests)

      by : (b : Bool) → (beat.count == 0) ≡ b → IsMore 0 beat.count (cond b never (beat.count - 1))
      by true e = inl (omega arith, inl (is-zero beat.count e))
      by false e = cases (not-zero beat.count e) (cases_lt (beat.count - 1) never)
        where
          cases : 1 ≤ beat.count → (beat.count - 1 < never) ⊎ (never ≤ beat.count - 1) → IsMore 0 beat.count (beat.count - 1)
          cases l (inl few) = inr (omega (arith, few), omega (arith, l))
          cases l (inr many) = inl (omega (arith, many), inr (omega (arith, many, l)))

  -- the next date comes when this one has
  rung-kept : (t n : ℕ) (alarm : Alarm) → rings t alarm ≡ true → IsNext beat alarm t n → IsKept beat (rung alarm) (suc t)
  rung-kept t n alarm e h = by (alarm.left == 0) refl h.more
    where
      reached : beat.first + n * beat.period ≡ t
      reached = omega (arith, at (beat.first + n * beat.period) (sym (ap (has_come t) h.date) ∙ e), h.later)
        where
          at : (date : ℕ) → nat_le date t ≡ true → date ≤ t
          at date f = grind (arith, nat_tests)

      next : later_by alarm.period alarm.date ≡ Some (beat.first + (n + 1) * beat.period)
      next = ap (later_by alarm.period) h.date ∙ ap Some (omega (arith, ap (λ p. beat.first + n * beat.period + p) h.period))

      is-zero : (m : ℕ) → (m == 0) ≡ true → m ≡ 0
      is-zero m f = grind (arith, nat_tests)

      not-zero : (m : ℕ) → (m == 0) ≡ false → 1 ≤ m
      not-zero m f = grind (arith, nat_tests)

      goes-on : (alarm.left == 0) ≡ false → IsMore (n + 1) beat.count (left_after 1 alarm.left) → IsNext beat (rung alarm) (suc t) (n + 1)
      goes-on f more =
          record {
            date = ap (λ b. cond b None (later_by alarm.period alarm.date)) f ∙ next;
            period = h.period;
            later = omega (arith, reached, some);
            last = inr (omega (arith, reached));
            more = more;
          }

      stays : (left : ℕ) → never ≤ left → left_after 1 left ≡ left
      stays left l = grind (arith, nat_tests)

      less : (left : ℕ) → left < never → left_after 1 left ≡ left - 1
      less left l = grind (arith, nat_tests)

      by : (b : Bool) → (alarm.left == 0) ≡ b → IsMore n beat.count alarm.left → IsKept beat (rung alarm) (suc t)
      by true f (inl (l, end)) = absurd (omega (arith, is-zero alarm.left f, l))
      by true f (inr (l, counted)) =
          let all : beat.count ≡ n + 1 = omega (arith, counted, is-zero alarm.left f) in
          inr
          record {
            date = ap (λ b. cond b None (later_by alarm.period alarm.date)) f;
            some = omega (arith, all);
            last = omega (arith, ap (λ m. m * beat.period) all, reached);
          }
      by false f (inl (l, end)) =
          inl (n + 1, goes-on f (inl (omega (arith, stays alarm.left l, l), end)))
      by false f (inr (l, counted)) =
          let e : left_after 1 alarm.left ≡ alarm.left - 1 = less alarm.left l in
          let s = not-zero alarm.left f in
          inl (n + 1, goes-on f (inr (omega (arith, e, l), omega (arith, e, s, counted))))

  -- and else it is the same
  still-kept : (t n : ℕ) (alarm : Alarm) → rings t alarm ≡ false → IsNext beat alarm t n → IsNext beat alarm (suc t) n
  still-kept t n alarm e h =
      record {
        date = h.date;
        period = h.period;
        later = omega (arith, at (beat.first + n * beat.period) (sym (ap (has_come t) h.date) ∙ e));
        last = longer h.last;
        more = h.more;
      }
    where
      at : (date : ℕ) → nat_le date t ≡ false → t < date
      at date f = grind (arith, nat_tests)

      longer : (n ≡ 0) ⊎ (beat.first + n * beat.period < t + beat.period) → (n ≡ 0) ⊎ (beat.first + n * beat.period < suc t + beat.period)
      longer (inl none) = inl none
      longer (inr l) = inr (omega (arith, l))

  next-kept : (t : ℕ) (alarm : Alarm) → IsKept beat alarm t → IsKept beat (rung_if t alarm) (suc t)
  next-kept t alarm (inl (n, h)) = by (rings t alarm) refl
    where
      by : (b : Bool) → rings t alarm ≡ b → IsKept beat (cond b (rung alarm) alarm) (suc t)
      by true e = rung-kept t n alarm e h
      by false e = inl (n, still-kept t n alarm e h)
  next-kept t alarm (inr h) =
      let e : rings t alarm ≡ false = ap (has_come t) h.date in
      subst (λ b. IsKept beat (cond b (rung alarm) alarm) (suc t)) (sym e)
      (inr record { date = h.date; some = h.some; last = omega (arith, h.last) })

  kept : (t : ℕ) → IsKept beat (alarm_before system beat t) t
  kept zero = first-kept
  kept (suc t) = next-kept t (alarm_before system beat t) (kept t)

  -- so the alarm of a beat rings at its dates
  pub rings-dates : (t : ℕ) → t < 2 ^ 64 → rings t (alarm_before system beat t) ≡ is_date t beat
  rings-dates t soon = rings-kept t (alarm_before system beat t) (omega (arith, soon)) (kept t)

-- the rows of the alarms that ring are those of the beats with a date
module _ (system : System) (t : ℕ) (soon : t < 2 ^ 64) where
  abbrev has_period : Beat → Type 0
  has_period beat = 1 ≤ beat.period

  ringing-of : (beats : List Beat) → AllByRecursion (IsBeat system) beats
      → ringing t (map (λ beat. alarm_before system beat t) beats) ≡ map (λ beat. alarm_before system beat t) (filter (is_date t) beats)
  ringing-of [] all = refl
  ringing-of (beat ∷ beats) all = by (rings t (alarm_before system beat t)) (is_date t beat) (rings-dates system beat all.0.period.0 t soon) (ringing-of beats all.1)
    where
      by : (a b : Bool) → a ≡ b → ringing t (map (λ beat. alarm_before system beat t) beats) ≡ map (λ beat. alarm_before system beat t) (filter (is_date t) beats)
          → cond a (alarm_before system beat t ∷ ringing t (map (λ beat. alarm_before system beat t) beats)) (ringing t (map (λ beat. alarm_before system beat t) beats))
          ≡ map (λ beat. alarm_before system beat t) (cond b (beat ∷ filter (is_date t) beats) (filter (is_date t) beats))
      by true true e h = ap (λ alarms. alarm_before system beat t ∷ alarms) h
      by false false e h = h
      by true false e h = absurd (cc)
      by false true e h = absurd (cc)

  pub ringing-dates : IsWellFormed system → (c : ℕ)
      → ringing t (alarms_at system c t) ≡ map (λ beat. alarm_before system beat t) (filter (is_date t) (filter (is_at_home system c) system.beats))
  ringing-dates well c =
      ap (ringing t) (before-map system (filter (is_at_home system c) system.beats) t)
      ∙ ringing-of (filter (is_at_home system c) system.beats) (all-filter (IsBeat system) (is_at_home system c) system.beats (by_recursion (IsBeat system) system.beats well.sources.beats))
