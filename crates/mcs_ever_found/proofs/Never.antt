-- A thread that misses no deadline by the end of the first period never misses one, and a
-- notification that loses no signal by then never loses one.
use Rattle.std.proofs.Common.{◌≡◌, ℕ, zero, suc, ◌+◌, ◌-◌, ◌<◌, ◌≤◌, Bool, true, false, cond, ◌||◌, List, [], ◌∷◌, map, refl, sym, ap, subst, ◌∙◌, Option, Some, None, arith}
use Rattle.std.specs.Prelude.{filter, ◌==◌, nat_lt, nat_le}
use Rattle.std.specs.List.{AllByRecursion, list_any}
use Rattle.std.proofs.lemmas.Bool.Decides.{nat_tests}
use Rattle.std.proofs.lemmas.List.Folds.{list_any-append}
use Rattle.std.proofs.lemmas.List.Elements.{filter-append}
use Rattle.mcs_ticks.specs.declared.row.Row.{Row}
use Rattle.mcs_ticks.specs.declared.row.What.{What}
use Rattle.mcs_ticks.specs.declared.row.What.TheVariants as row
use Rattle.mcs_system.specs.System.{System, thread_part, note_part, core_of}
use Rattle.mcs_system.specs.WellFormed.{IsWellFormed}
use Rattle.mcs_core.specs.Clock.{clock, schedule, turn_of}
use Rattle.mcs_verdict.specs.declared.finding.Finding.{Finding}
use Rattle.mcs_verdict.specs.declared.finding.Finding.TheVariants.{Miss, Overdue, Untaken, Lost, Never}
use Rattle.mcs_verdict.specs.declared.finding.Found.{Found}
use Rattle.mcs_verdict.specs.Jobs.{job}
use Rattle.mcs_verdict.specs.Words.{held_of, firsts_of, leaves}
use Rattle.mcs_verdict.specs.Misses.{is_above}
use Rattle.mcs_verdict.specs.Findings.{finding, found_at, found_in}
use Rattle.mcs_verdict_laws.specs.laws.Horizons.{is_miss_of}
use Rattle.mcs_verdict_laws.proofs.Steps.{contrary, ends_round}
use Rattle.mcs_verdict_laws.proofs.Homes.{rounds-home}
use Rattle.mcs_verdict_laws.proofs.Between.{miss-home}
use Rattle.mcs_ever.specs.Recurs.{Shifts, shift_of}
use Rattle.mcs_ever.specs.laws.Home.{IsOfOwn}
use Rattle.mcs_ever.proofs.Home.{rows-of-own}
use Rattle.mcs_ever.proofs.Schedules.{all-turns}
use Rattle.mcs_ever_found.specs.Later.{later_finding, later_found}
use Rattle.mcs_ever_found.specs.Recurs.{FindingsRecur}
use Rattle.mcs_ever_found.specs.laws.Repeats.{found_at_moment}
use Rattle.mcs_ever_found.specs.laws.Never.{is_lost_of, NoDeadlineIsMissed, NoSignalIsLost}
use Rattle.mcs_ever_found.proofs.Findings.{found_before, found-next, findings-repeat}

or-first : (a b : Bool) → (a || b) ≡ false → a ≡ false
or-first false b e = refl
or-first true b e = e

or-second : (a b : Bool) → (a || b) ≡ false → b ≡ false
or-second false b e = e
or-second true b e = absurd (contrary true e refl)

-- a test of findings that pass only on a core of the group
module _ (system : System) (group : ℕ → Bool) (test : Finding → Bool) where
  abbrev any : List Found → Bool
  any found = list_any (λ (f : Found). test f.finding) found

  abbrev mine : List Found → List Found
  mine found = filter (λ (f : Found). group f.core) found

  -- such a row
  abbrev Passes : List Row → Row → Type 0
  Passes past r = (f : Finding) → finding system past r.moment r.what ≡ Some f → test f ≡ true → group r.core ≡ true

  any-here : (m core : ℕ) (o : Option Finding) → ((f : Finding) → o ≡ Some f → test f ≡ true → group core ≡ true)
      → any (mine (found_at m core o)) ≡ any (found_at m core o)
  any-here m core None own = refl
  any-here m core (Some f) own = by (group core) refl
    where
      here : List Found
      here = found_at m core (Some f)

      none : (b : Bool) → test f ≡ b → group core ≡ false → any here ≡ false
      none true e other = absurd (contrary (group core) other (own f refl e))
      none false e other = ap (λ b. b || false) e

      by : (b : Bool) → group core ≡ b → any (mine here) ≡ any here
      by true e = ap (λ b. any (cond b here [])) e
      by false e = ap (λ b. any (cond b here [])) e ∙ sym (none (test f) refl e)

  abbrev AllPass : List Row → List Row → Type 0
  AllPass past [] = Unit {0}
  AllPass past (r ∷ rows) = Passes past r × AllPass (r ∷ past) rows

  any-mine : (past rows : List Row) → AllPass past rows → any (mine (found_in system past rows)) ≡ any (found_in system past rows)
  any-mine past [] own = refl
  any-mine past (r ∷ rows) own =
      let here = found_at r.moment r.core (finding system past r.moment r.what) in
      let rest = found_in system (r ∷ past) rows in
      let p : Found → Bool = λ (f : Found). test f.finding in
      ap any (filter-append (λ (f : Found). group f.core) here rest)
      ∙ list_any-append p (mine here) (mine rest)
      ∙ ap (λ b. b || any (mine rest)) (any-here r.moment r.core (finding system past r.moment r.what) own.0)
      ∙ ap (λ b. any here || b) (any-mine (r ∷ past) rows own.1)
      ∙ sym (list_any-append p here rest)

-- a test that does not depend on the time
module _ (system : System) (group : ℕ → Bool) (shifts : Shifts) (from : ℕ) (well : IsWellFormed system) (recur : FindingsRecur system group shifts from)
    (test : Finding → Bool) (timeless : (core : ℕ) (f : Finding) → test (later_finding (shift_of shifts core) f) ≡ test f) where
  abbrev at : ℕ → Bool
  at t = list_any (λ (f : Found). test f.finding) (found_at_moment system group t)

  abbrev before : ℕ → Bool
  before t = list_any (λ (f : Found). test f.finding) (found_before system group well t)

  next : (t : ℕ) → before (suc t) ≡ (before t || at t)
  next t =
      let p : Found → Bool = λ (f : Found). test f.finding in
      ap (list_any p) (found-next system group well t) ∙ list_any-append p (found_before system group well t) (found_at_moment system group t)

  later-any : (found : List Found) → list_any (λ (f : Found). test f.finding) (map (later_found shifts) found) ≡ list_any (λ (f : Found). test f.finding) found
  later-any [] = refl
  later-any (f ∷ found) =
      let p : Found → Bool = λ (f : Found). test f.finding in
      ap (λ b. b || list_any p (map (later_found shifts) found)) (timeless f.core f.finding)
      ∙ ap (λ b. test f.finding || b) (later-any found)

  none-at : (n t : ℕ) → t < n → before n ≡ false → at t ≡ false
  none-at zero t l e = absurd (omega (arith, l))
  none-at (suc n) t l e = by (none-at n t) (nat_lt t n) refl
    where
      both : (before n || at n) ≡ false
      both = sym (next n) ∙ e

      by : (t < n → before n ≡ false → at t ≡ false) → (b : Bool) → nat_lt t n ≡ b → at t ≡ false
      by i true f = i (grind (arith, nat_tests)) (or-first (before n) (at n) both)
      by i false f =
          let low : n ≤ t = grind (arith, nat_tests) in
          let same : n ≡ t = omega (arith, low, l) in
          let P : ℕ → Type 0 = λ t. at t ≡ false in
          subst P same (or-second (before n) (at n) both)

  none-before : (n : ℕ) → ((t : ℕ) → at t ≡ false) → before n ≡ false
  none-before zero h = refl
  none-before (suc n) h = next n ∙ ap (λ b. b || at n) (none-before n h) ∙ h n

  some : 1 ≤ shifts.by
  some = recur.recurs.some

  below : (last : ℕ) → from + shifts.by ≤ suc last → before (suc last) ≡ false → (n t : ℕ) → t < n → at t ≡ false
  below last end first zero t l = absurd (omega (arith, l))
  below last end first (suc n) t l = by (below last end first n (t - shifts.by)) (nat_lt t (from + shifts.by)) refl
    where
      by : (t - shifts.by < n → at (t - shifts.by) ≡ false) → (b : Bool) → nat_lt t (from + shifts.by) ≡ b → at t ≡ false
      by i true e =
          let less : t < from + shifts.by = grind (arith, nat_tests) in
          none-at (suc last) t (omega (arith, less, end)) first
      by i false e =
          let m : from + shifts.by ≤ t = grind (arith, nat_tests) in
          let f : t - shifts.by + shifts.by ≡ t = omega (arith, m) in
          let P : ℕ → Type 0 = λ t. at t ≡ false in
          subst P f
          (ap (list_any (λ (f : Found). test f.finding)) (findings-repeat system group shifts from well recur (t - shifts.by) (omega (arith, m)))
          ∙ later-any (found_at_moment system group (t - shifts.by)) ∙ i (omega (arith, l, m, some)))

  -- no finding elsewhere passes it
  module _ (own : (n : ℕ) → AllPass system group test [] (clock system n).rows) where
    none-ever : (last : ℕ) → from + shifts.by ≤ suc last
        → list_any (λ (f : Found). test f.finding) (found_in system [] (schedule system last)) ≡ false
        → (horizon : ℕ) → list_any (λ (f : Found). test f.finding) (found_in system [] (schedule system horizon)) ≡ false
    none-ever last end first horizon =
        sym (any-mine system group test [] (schedule system horizon) (own (suc horizon)))
        ∙ none-before (suc horizon)
        (λ t. below last end (any-mine system group test [] (schedule system last) (own (suc last)) ∙ first) (suc t) t (omega arith))

-- a missed deadline
miss-timeless : (shifts : Shifts) (x core : ℕ) (f : Finding) → is_miss_of x (later_finding (shift_of shifts core) f) ≡ is_miss_of x f
miss-timeless shifts x core (Miss y number response deadline activated queued stood) = refl
miss-timeless shifts x core (Overdue y number age deadline activated queued stood) = refl
miss-timeless shifts x core (Untaken note word age deadline set) = refl
miss-timeless shifts x core (Lost note word) = refl
miss-timeless shifts x core (Never y deadline) = refl

miss-own : (system : System) (group : ℕ → Bool) (x : ℕ) (past rows : List Row) → group (core_of system (thread_part system x)) ≡ true
    → AllByRecursion (λ (r : Row). ends_round x r.what ≡ true → r.core ≡ core_of system (thread_part system x)) rows → AllPass system group (is_miss_of x) past rows
miss-own system group x past [] own all = tt
miss-own system group x past (r ∷ rows) own all = (
  λ f e miss. ap group (miss-home system x r.moment (core_of system (thread_part system x)) r.core past r.what all.0 f e miss) ∙ own,
  miss-own system group x (r ∷ past) rows own all.1,
)

pub no-deadline-is-missed : NoDeadlineIsMissed
no-deadline-is-missed system group shifts from well recur x own last end first horizon =
    none-ever system group shifts from well recur (is_miss_of x) (miss-timeless shifts x)
    (λ n. miss-own system group x [] (clock system n).rows own (rounds-home system well x n)) last end first horizon

-- a lost signal
lost-timeless : (shifts : Shifts) (n core : ℕ) (f : Finding) → is_lost_of n (later_finding (shift_of shifts core) f) ≡ is_lost_of n f
lost-timeless shifts n core (Miss y number response deadline activated queued stood) = refl
lost-timeless shifts n core (Overdue y number age deadline activated queued stood) = refl
lost-timeless shifts n core (Untaken note word age deadline set) = refl
lost-timeless shifts n core (Lost note word) = refl
lost-timeless shifts n core (Never y deadline) = refl

-- whether a signal is held in the word of the notification
abbrev holds_word : ℕ → What → Bool
holds_word note (row.Hold x word) = x == note
holds_word note _ = false

-- a word is held on the core of its notification
module _ (system : System) (n : ℕ) where
  abbrev IsHeldAtHome : ℕ → What → Type 0
  IsHeldAtHome core what = holds_word n what ≡ true → core ≡ (note_part system n).core

  held-row : (c : ℕ) (what : What) → IsOfOwn system c what → IsHeldAtHome c what
  held-row c (row.Hold note word) own e =
      let same : note ≡ n = grind (arith, nat_tests) in
      sym own.home ∙ ap (λ note. (note_part system note).core) same
  held-row c (row.Release x) own e = absurd (contrary false refl e)
  held-row c (row.Run x) own e = absurd (contrary false refl e)
  held-row c (row.Stop x cause charged until) own e = absurd (contrary false refl e)
  held-row c (row.Signal x note badge) own e = absurd (contrary false refl e)
  held-row c (row.Arrive note badge maker) own e = absurd (contrary false refl e)
  held-row c (row.Wake x note word until) own e = absurd (contrary false refl e)
  held-row c (row.Got x note word) own e = absurd (contrary false refl e)
  held-row c (row.Round x number response) own e = absurd (contrary false refl e)
  held-row c (row.Order context) own e = absurd (contrary false refl e)
  held-row c (row.Interrupt source at_note badge) own e = absurd (contrary false refl e)

  held-rows : (c : ℕ) (rows : List What) → AllByRecursion (IsOfOwn system c) rows → AllByRecursion (IsHeldAtHome c) rows
  held-rows c [] own = tt
  held-rows c (what ∷ rows) own = (held-row c what own.0, held-rows c rows own.1)

  held-home : IsWellFormed system → (t : ℕ) → AllByRecursion (λ (r : Row). IsHeldAtHome r.core r.what) (clock system t).rows
  held-home well t =
      all-turns (λ (r : Row). IsHeldAtHome r.core r.what) system well t
      (λ t c l known. held-rows c (turn_of system c t).rows (rows-of-own system well c t known))

  lost-home : (m core : ℕ) (past : List Row) (what : What) → IsHeldAtHome core what →
      (f : Finding) → finding system past m what ≡ Some f → is_lost_of n f ≡ true → core ≡ (note_part system n).core
  lost-home m core past (row.Hold note word) own f e lost = by (leaves (held_of (firsts_of system) note past).word word) e
    where
      by : (b : Bool) → cond b (Some (Lost note word)) None ≡ Some f → core ≡ (note_part system n).core
      by true g =
          let same : Lost note word ≡ f = cc in
          own (ap (is_lost_of n) same ∙ lost)
      by false g = absurd (cc)
  lost-home m core past (row.Round y number response) own f e lost = by (is_above (thread_part system y).deadline (job system past m y number).response) e
    where
      by : (b : Bool)
          → cond b
          (Some
          (Miss y number (job system past m y number).response (thread_part system y).deadline (job system past m y number).activated
          (job system past m y number).queued (job system past m y number).stood))
          None ≡ Some f
          → core ≡ (note_part system n).core
      by true g =
          let same :
          Miss y number (job system past m y number).response (thread_part system y).deadline (job system past m y number).activated
          (job system past m y number).queued (job system past m y number).stood ≡ f = cc
          in
          absurd (contrary false refl (ap (is_lost_of n) same ∙ lost))
      by false g = absurd (cc)
  lost-home m core past (row.Release y) own f e lost = absurd (cc)
  lost-home m core past (row.Run y) own f e lost = absurd (cc)
  lost-home m core past (row.Stop y cause charged until) own f e lost = absurd (cc)
  lost-home m core past (row.Signal y note badge) own f e lost = absurd (cc)
  lost-home m core past (row.Arrive note badge maker) own f e lost = absurd (cc)
  lost-home m core past (row.Wake y note word until) own f e lost = absurd (cc)
  lost-home m core past (row.Got y note word) own f e lost = absurd (cc)
  lost-home m core past (row.Order context) own f e lost = absurd (cc)
  lost-home m core past (row.Interrupt source at_note badge) own f e lost = absurd (cc)

  lost-own : (group : ℕ → Bool) (past rows : List Row) → group (note_part system n).core ≡ true
      → AllByRecursion (λ (r : Row). IsHeldAtHome r.core r.what) rows → AllPass system group (is_lost_of n) past rows
  lost-own group past [] own all = tt
  lost-own group past (r ∷ rows) own all = (
    λ f e lost. ap group (lost-home r.moment r.core past r.what all.0 f e lost) ∙ own,
    lost-own group (r ∷ past) rows own all.1,
  )

pub no-signal-is-lost : NoSignalIsLost
no-signal-is-lost system group shifts from well recur n own last end first horizon =
    none-ever system group shifts from well recur (is_lost_of n) (lost-timeless shifts n)
    (λ t. lost-own system n group [] (clock system t).rows own (held-home system n well t)) last end first horizon
