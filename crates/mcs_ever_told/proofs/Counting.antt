-- Missed deadlines and lost signals of a set that recurs, counted moment by moment.
use Rattle.std.proofs.Common.{◌≡◌, ℕ, suc, ◌+◌, ◌*◌, ◌≤◌, Bool, true, false, cond, List, [], ◌∷◌, ◌++◌, length, map, Option, Some, None, refl, sym, ap, ◌∙◌, length-append, arith}
use Rattle.std.specs.Prelude.{◌==◌}
use Rattle.std.specs.List.{AllByRecursion, filter}
use Rattle.std.proofs.lemmas.Bool.Decides.{nat_tests}
use Rattle.std.proofs.lemmas.List.Elements.{filter-append}
use Rattle.mcs_ticks.specs.declared.row.Row.{Row}
use Rattle.mcs_ticks.specs.declared.row.What.{What}
use Rattle.mcs_ticks.specs.declared.row.What.TheVariants as row
use Rattle.mcs_system.specs.System.{System, thread_part, note_part, core_of}
use Rattle.mcs_system.specs.WellFormed.{IsWellFormed}
use Rattle.mcs_core.specs.Clock.{clock}
use Rattle.mcs_verdict.specs.declared.finding.Finding.{Finding}
use Rattle.mcs_verdict.specs.declared.finding.Finding.TheVariants.{Miss, Overdue, Untaken, Lost, Never}
use Rattle.mcs_verdict.specs.declared.finding.Found.{Found}
use Rattle.mcs_verdict.specs.Findings.{finding, past_of, found_at, found_in}
use Rattle.mcs_verdict.specs.Jobs.{job}
use Rattle.mcs_verdict.specs.Misses.{is_above}
use Rattle.mcs_verdict.specs.Words.{held_of, firsts_of, leaves}
use Rattle.mcs_ever.specs.Later.{Shift}
use Rattle.mcs_ever.specs.Recurs.{Shifts, shift_of}
use Rattle.mcs_ever.specs.laws.Home.{IsOfOwn}
use Rattle.mcs_ever.proofs.Home.{rows-of-own}
use Rattle.mcs_ever.proofs.Schedules.{all-turns}
use Rattle.mcs_ever_found.specs.Course.{is_miss, is_loss, times, misses, losses}
use Rattle.mcs_ever_found.specs.Later.{later_finding, later_found}
use Rattle.mcs_ever_found.specs.Recurs.{past_before, FindingsRecur}
use Rattle.mcs_ever_found.specs.laws.Repeats.{found_at_moment, FindingsRepeat}
use Rattle.mcs_ever_found.proofs.Findings.{found_before, found-next}
use Rattle.mcs_ever_told.proofs.Growing.{grows, each-period}

-- findings that pass a test
abbrev pub number : (Option Finding → Bool) → List Found → ℕ
number test found = length (filter (λ (f : Found). test (Some f.finding)) found)

module _ (system : System) (group : ℕ → Bool) (test : Option Finding → Bool) (none : test None ≡ false) where
  abbrev of_group : Found → Bool
  of_group found = group found.core

  -- it passes only on cores of the group
  abbrev IsOwn : List Row → Row → Type 0
  IsOwn past r = test (finding system past r.moment r.what) ≡ true → group r.core ≡ true

  one-here : (found : Found) (b c : Bool) → test (Some found.finding) ≡ b → group found.core ≡ c → (b ≡ true → c ≡ true) →
      number test (filter of_group (found ∷ [])) ≡ cond b 1 0
  one-here found true true e f own =
      ap (λ c. number test (cond c (found ∷ []) [])) f ∙ ap (λ b. length (cond b (found ∷ []) [])) e
  one-here found true false e f own = let no : false ≡ true = own refl in cc
  one-here found false true e f own =
      ap (λ c. number test (cond c (found ∷ []) [])) f ∙ ap (λ b. length (cond b (found ∷ []) [])) e
  one-here found false false e f own = ap (λ c. number test (cond c (found ∷ []) [])) f

  one : (m c : ℕ) (o : Option Finding) → (test o ≡ true → group c ≡ true) → number test (filter of_group (found_at m c o)) ≡ cond (test o) 1 0
  one m c None own = sym (ap (λ b. cond b 1 0) none)
  one m c (Some f) own = one-here (record { moment = m; core = c; finding = f }) (test (Some f)) (group c) refl refl own

  both : (xs ys : List Found) → number test (filter of_group (xs ++ ys)) ≡ number test (filter of_group xs) + number test (filter of_group ys)
  both xs ys =
      let p : Found → Bool = λ f. test (Some f.finding) in
      ap (number test) (filter-append of_group xs ys)
      ∙ ap (λ (found : List Found). length found) (filter-append p (filter of_group xs) (filter of_group ys))
      ∙ length-append (filter p (filter of_group xs)) (filter p (filter of_group ys))

  -- the findings of the group are those that are counted
  counted : ((past : List Row) (r : Row) → IsOfOwn system r.core r.what → IsOwn past r) → (past rows : List Row) →
      AllByRecursion (λ (r : Row). IsOfOwn system r.core r.what) rows →
      times system test (past_of past rows) ≡ times system test past + number test (filter of_group (found_in system past rows))
  counted own past [] home = omega arith
  counted own past (r ∷ rows) home =
      let here = one r.moment r.core (finding system past r.moment r.what) (own past r home.0) in
      let rest = counted own (r ∷ past) rows home.1 in
      let all = both (found_at r.moment r.core (finding system past r.moment r.what)) (found_in system (r ∷ past) rows) in
      omega (arith, here, rest, all)

  module _ (own : (past : List Row) (r : Row) → IsOfOwn system r.core r.what → IsOwn past r) (shifts : Shifts) (from : ℕ)
      (well : IsWellFormed system) (recurs : FindingsRecur system group shifts from)
      (timeless : (shift : Shift) (f : Finding) → test (Some (later_finding shift f)) ≡ test (Some f)) (law : FindingsRepeat) where
    abbrev many : ℕ → ℕ
    many t = number test (found_before system group well t)

    abbrev more : ℕ → ℕ
    more t = number test (found_at_moment system group t)

    next : (t : ℕ) → many (suc t) ≡ many t + more t
    next t =
        let p : Found → Bool = λ f. test (Some f.finding) in
        ap (number test) (found-next system group well t)
        ∙ ap (λ (found : List Found). length found) (filter-append p (found_before system group well t) (found_at_moment system group t))
        ∙ length-append (filter p (found_before system group well t)) (filter p (found_at_moment system group t))

    kept : (f g : Found) (b c : Bool) (fs gs : List Found) → b ≡ c → length fs ≡ length gs → length (cond b (f ∷ fs) fs) ≡ length (cond c (g ∷ gs) gs)
    kept f g true true fs gs e same = ap (λ (n : ℕ). suc n) same
    kept f g true false fs gs e same = cc
    kept f g false true fs gs e same = cc
    kept f g false false fs gs e same = same

    later : (found : List Found) → number test (map (later_found shifts) found) ≡ number test found
    later [] = refl
    later (f ∷ found) =
        let p : Found → Bool = λ f. test (Some f.finding) in
        kept (later_found shifts f) f (p (later_found shifts f)) (p f) (filter p (map (later_found shifts) found)) (filter p found)
        (timeless (shift_of shifts f.core) f.finding) (later found)

    same : (t : ℕ) → from ≤ t → more (t + shifts.by) ≡ more t
    same t l = ap (number test) (law system group shifts from well recurs t l) ∙ later (found_at_moment system group t)

    times-are : (t : ℕ) → times system test (past_before system t) ≡ many t
    times-are t =
        let all = counted own [] (clock system t).rows
        (all-turns (λ (r : Row). IsOfOwn system r.core r.what) system well t (λ s c l known. rows-of-own system well c s known)) in
        omega (arith, all)

    abbrev times_before : ℕ → ℕ
    times_before t = times system test (past_before system t)

    pub no-fewer : times_before from ≤ times_before (from + shifts.by)
    no-fewer = omega (arith, times-are from, times-are (from + shifts.by), grows many more from shifts.by next same shifts.by from)

    pub each-time : (each : ℕ) → times_before (from + shifts.by) ≡ times_before from + each → (k : ℕ) →
        times_before (from + (k + 1) * shifts.by) ≡ times_before (from + k * shifts.by) + each
    each-time each first k =
        let now : many (from + shifts.by) ≡ many from + each = omega (arith, first, times-are from, times-are (from + shifts.by)) in
        times-are (from + (k + 1) * shifts.by) ∙ each-period many more from shifts.by next same each now k
        ∙ ap (λ (n : ℕ). n + each) (sym (times-are (from + k * shifts.by)))

-- missed deadlines of a thread
pub miss-later : (thread : ℕ) (shift : Shift) (f : Finding) → is_miss thread (Some (later_finding shift f)) ≡ is_miss thread (Some f)
miss-later thread shift (Miss x number response deadline activated queued stood) = refl
miss-later thread shift (Overdue x number age deadline activated queued stood) = refl
miss-later thread shift (Untaken note word age deadline set) = refl
miss-later thread shift (Lost note word) = refl
miss-later thread shift (Never x deadline) = refl

pub loss-later : (note : ℕ) (shift : Shift) (f : Finding) → is_loss note (Some (later_finding shift f)) ≡ is_loss note (Some f)
loss-later note shift (Miss x number response deadline activated queued stood) = refl
loss-later note shift (Overdue x number age deadline activated queued stood) = refl
loss-later note shift (Untaken x word age deadline set) = refl
loss-later note shift (Lost x word) = refl
loss-later note shift (Never x deadline) = refl

same-number : (a b : ℕ) → (a == b) ≡ true → a ≡ b
same-number a b e = grind (arith, nat_tests)

module _ (system : System) (group : ℕ → Bool) where
  miss-row : (thread m c : ℕ) (past : List Row) (what : What) → group (core_of system (thread_part system thread)) ≡ true → IsOfOwn system c what →
      is_miss thread (finding system past m what) ≡ true → group c ≡ true
  miss-row thread m c past (row.Round x number response) mine own e = by (is_above (thread_part system x).deadline (job system past m x number).response) e
    where
      by : (b : Bool) → is_miss thread (cond b (Some (Miss x number (job system past m x number).response (thread_part system x).deadline
          (job system past m x number).activated (job system past m x number).queued (job system past m x number).stood)) None) ≡ true → group c ≡ true
      by true e = ap group (sym own.home ∙ ap (λ (x : ℕ). core_of system (thread_part system x)) (same-number x thread e)) ∙ mine
      by false e = cc
  miss-row thread m c past (row.Hold note word) mine own e = by (leaves (held_of (firsts_of system) note past).word word) e
    where
      by : (b : Bool) → is_miss thread (cond b (Some (Lost note word)) None) ≡ true → group c ≡ true
      by true e = cc
      by false e = cc
  miss-row thread m c past (row.Stop x cause k until) mine own e = cc
  miss-row thread m c past (row.Release x) mine own e = cc
  miss-row thread m c past (row.Run x) mine own e = cc
  miss-row thread m c past (row.Signal x note badge) mine own e = cc
  miss-row thread m c past (row.Arrive note badge maker) mine own e = cc
  miss-row thread m c past (row.Wake x note word until) mine own e = cc
  miss-row thread m c past (row.Got x note word) mine own e = cc
  miss-row thread m c past (row.Order context) mine own e = cc
  miss-row thread m c past (row.Interrupt source at_note badge) mine own e = cc

  loss-row : (note m c : ℕ) (past : List Row) (what : What) → group (note_part system note).core ≡ true → IsOfOwn system c what →
      is_loss note (finding system past m what) ≡ true → group c ≡ true
  loss-row note m c past (row.Round x number response) mine own e = by (is_above (thread_part system x).deadline (job system past m x number).response) e
    where
      by : (b : Bool) → is_loss note (cond b (Some (Miss x number (job system past m x number).response (thread_part system x).deadline
          (job system past m x number).activated (job system past m x number).queued (job system past m x number).stood)) None) ≡ true → group c ≡ true
      by true e = cc
      by false e = cc
  loss-row note m c past (row.Hold n word) mine own e = by (leaves (held_of (firsts_of system) n past).word word) e
    where
      by : (b : Bool) → is_loss note (cond b (Some (Lost n word)) None) ≡ true → group c ≡ true
      by true e = ap group (sym own.home ∙ ap (λ (n : ℕ). (note_part system n).core) (same-number n note e)) ∙ mine
      by false e = cc
  loss-row note m c past (row.Stop x cause k until) mine own e = cc
  loss-row note m c past (row.Release x) mine own e = cc
  loss-row note m c past (row.Run x) mine own e = cc
  loss-row note m c past (row.Signal x n badge) mine own e = cc
  loss-row note m c past (row.Arrive n badge maker) mine own e = cc
  loss-row note m c past (row.Wake x n word until) mine own e = cc
  loss-row note m c past (row.Got x n word) mine own e = cc
  loss-row note m c past (row.Order context) mine own e = cc
  loss-row note m c past (row.Interrupt source n badge) mine own e = cc

  module _ (shifts : Shifts) (from : ℕ) (well : IsWellFormed system) (recurs : FindingsRecur system group shifts from) (law : FindingsRepeat) where
    module _ (thread : ℕ) (mine : group (core_of system (thread_part system thread)) ≡ true) where
      own-miss : (past : List Row) (r : Row) → IsOfOwn system r.core r.what → is_miss thread (finding system past r.moment r.what) ≡ true → group r.core ≡ true
      own-miss past r own e = miss-row thread r.moment r.core past r.what mine own e

      pub no-fewer-misses : misses system thread (past_before system from) ≤ misses system thread (past_before system (from + shifts.by))
      no-fewer-misses = no-fewer system group (is_miss thread) refl own-miss shifts from well recurs (miss-later thread) law

      pub each-miss : (each : ℕ) → misses system thread (past_before system (from + shifts.by)) ≡ misses system thread (past_before system from) + each → (k : ℕ) →
          misses system thread (past_before system (from + (k + 1) * shifts.by)) ≡ misses system thread (past_before system (from + k * shifts.by)) + each
      each-miss each first k = each-time system group (is_miss thread) refl own-miss shifts from well recurs (miss-later thread) law each first k

    module _ (note : ℕ) (mine : group (note_part system note).core ≡ true) where
      own-loss : (past : List Row) (r : Row) → IsOfOwn system r.core r.what → is_loss note (finding system past r.moment r.what) ≡ true → group r.core ≡ true
      own-loss past r own e = loss-row note r.moment r.core past r.what mine own e

      pub no-fewer-losses : losses system note (past_before system from) ≤ losses system note (past_before system (from + shifts.by))
      no-fewer-losses = no-fewer system group (is_loss note) refl own-loss shifts from well recurs (loss-later note) law

      pub each-loss : (each : ℕ) → losses system note (past_before system (from + shifts.by)) ≡ losses system note (past_before system from) + each → (k : ℕ) →
          losses system note (past_before system (from + (k + 1) * shifts.by)) ≡ losses system note (past_before system (from + k * shifts.by)) + each
      each-loss each first k = each-time system group (is_loss note) refl own-loss shifts from well recurs (loss-later note) law each first k
