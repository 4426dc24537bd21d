-- Facts kept since a moment, for a set that recurs since then.
use Rattle.std.proofs.Common.{◌≡◌, ℕ, zero, suc, ◌+◌, ◌-◌, ◌≤◌, List, [], ◌++◌, Bool, length, map, get_or, false, refl, sym, ap, subst, ◌∙◌, append_assoc, append-nil, arith}
use Rattle.std.specs.List.{range_with_len}
use Rattle.std.proofs.lemmas.List.FromFn.{fill_by_all, length-map-range_with_len}
use Rattle.mcs_ticks.specs.declared.row.What.{What}
use Rattle.mcs_system.specs.System.{System, TakesTime}
use Rattle.mcs_core.specs.Clock.{schedule}
use Rattle.mcs_verdict.specs.Findings.{past_of}
use Rattle.mcs_verdict.specs.Watch.{Watch, watch_of}
use Rattle.mcs_ever_again.specs.Period.{told_between}
use Rattle.mcs_ever_again.specs.Told.{shifts_told}
use Rattle.mcs_ever_again.specs.declared.recurs.shifts.Shifts.{Shifts}
use Rattle.mcs_ever.specs.Closed.{has}
use Rattle.mcs_ticks.specs.declared.row.Row.{Row}
use Rattle.mcs_system.specs.WellFormed.{IsWellFormed}
use Rattle.mcs_ever_again.specs.Schedule.{RowsTellTurns}
use Rattle.mcs_stretch.proofs.Later.{takes_time}
use Rattle.mcs_ever_search.specs.Together.{rows_at, rows_before}
use Rattle.mcs_ever_search.proofs.Turning.{rows-after}
use Rattle.mcs_ever.specs.Recurs.{Recurs}
use Rattle.mcs_ever_found.specs.Recurs.{past_before, watch_before, FindingsRecur}
use Rattle.mcs_ever_found.specs.Doings.{Doings, doings_of}
use Rattle.mcs_ever_found.specs.Period.{AreKept}
use Rattle.mcs_ever_search.specs.Compared.{Compared, RecursSince}
use Rattle.mcs_ever_found.specs.Course.{Course, course_of}
use Rattle.mcs_ever_told.specs.Outlook.{course_before, course_up_to, ended_between}
use Rattle.mcs_ever_told.specs.stored.Looks.{IsLook, HasRecurred}

-- the rows by which a schedule to a later horizon continues
pub rows-on : (s : System) → TakesTime s → (from n : ℕ) → (rows : List Row) × (rows_before s (from + n) ≡ rows_before s from ++ rows)
rows-on s takes from zero =
    let e : from + 0 ≡ from = omega arith in
    ([], ap (rows_before s) e ∙ sym (append-nil (rows_before s from)))
rows-on s takes from (suc n) =
    let e : from + suc n ≡ from + n + 1 = omega arith in
    let before = rows-on s takes from n in (
      before.0 ++ rows_at s (from + n),
      ap (rows_before s) e ∙ rows-after s takes (from + n) ∙ ap (λ (rows : List Row). rows ++ rows_at s (from + n)) before.1
          ∙ append_assoc (rows_before s from) before.0 (rows_at s (from + n)),
    )

module _ (system : System) (search : Compared) (look : IsLook system search) where
  pub are-kept : IsWellFormed system → RowsTellTurns system → (by : ℕ) → search.kept + by ≡ search.clock → (before after : Watch) (doings : Doings) →
      before ≡ watch_before search.system search.kept → after ≡ watch_before search.system search.clock →
      doings ≡ doings_of search.system (told_between search.system search.kept search.clock) →
      AreKept system by search.kept before after doings
  are-kept well tell by period before after doings b a d =
      let more = rows-on system (takes_time system well) search.kept by in
      let l : search.kept ≤ search.kept + by = omega arith in
      record {
        between = more.0;
        on = more.1;
        earlier = b ∙ ap (λ (s : System). watch_before s search.kept) look.same;
        later = a ∙ ap (λ (s : System). watch_before s search.clock) look.same ∙ ap (watch_before system) (sym period);
        done =
            d ∙ ap (λ (s : System). doings_of s (told_between s search.kept search.clock)) look.same
            ∙ ap (λ (m : ℕ). doings_of system (told_between system search.kept m)) (sym period)
            ∙ ap (λ (told : List What). doings_of system told) (sym (tell search.kept (search.kept + by) more.0 l more.1));
      }

  -- the rounds that ended, by the doings since then
  pub ended-since : (by : ℕ) → search.kept + by ≡ search.clock → (doings : Doings) →
      doings ≡ doings_of search.system (told_between search.system search.kept search.clock) →
      doings.ended ≡ ended_between system search.kept (search.kept + by)
  ended-since by period doings d =
      ap (λ (d : Doings). d.ended) (d ∙ ap (λ (s : System). doings_of s (told_between s search.kept search.clock)) look.same
      ∙ ap (λ (m : ℕ). doings_of system (told_between system search.kept m)) (sym period))

  -- the counts of the rows before a moment are those of the rows up to the tick before it
  course-last : (clock : ℕ) → 1 ≤ clock → course_of system (past_before system clock) ≡ course_up_to system (clock - 1)
  course-last clock some =
      let e : clock ≡ suc (clock - 1) = omega arith in
      ap (λ (t : ℕ). course_of system (past_before system t)) e

  pub course-now : 1 ≤ search.clock → (course : Course) → course ≡ course_of search.system (past_before search.system search.clock) →
      course ≡ course_up_to system (search.clock - 1)
  course-now some course is =
      is ∙ ap (λ (s : System). course_of s (past_before s search.clock)) look.same ∙ course-last search.clock some

  pub course-kept : (course : Course) → course ≡ course_of search.system (past_before search.system search.kept) → course ≡ course_before system search.kept
  course-kept course is = is ∙ ap (λ (s : System). course_of s (past_before s search.kept)) look.same

  watch-last : (t : ℕ) → 1 ≤ t → watch_before system t ≡ watch_of system (past_of [] (schedule system (t - 1)))
  watch-last t some = let e : t ≡ suc (t - 1) = omega arith in ap (watch_before system) e

  pub watch-at : (t : ℕ) → 1 ≤ t → (watch : Watch) → watch ≡ watch_before search.system t → watch ≡ watch_of system (past_of [] (schedule system (t - 1)))
  watch-at t some watch is = is ∙ ap (λ (s : System). watch_before s t) look.same ∙ watch-last t some

  -- a recurrence that the search found
  pub has-recurred : (set : List Bool) (shifts : Shifts) → RecursSince search set shifts →
      FindingsRecur system (has set) (shifts_told shifts.by shifts.lags.items) search.kept → HasRecurred system search set shifts.by
  has-recurred set shifts since recurs =
      record { shifts = shifts_told shifts.by shifts.lags.items; by_is = refl; recurs = recurs; period = since.period }

  pub recurs-here : (set : List Bool) (shifts : Shifts) → RecursSince search set shifts →
      Recurs system (has set) (shifts_told shifts.by shifts.lags.items) search.kept
  recurs-here set shifts since =
      let P : System → Type 0 = λ s. Recurs s (has set) (shifts_told shifts.by shifts.lags.items) search.kept in subst P look.same since.recurs

  -- the last moment of the period is the one before this
  pub last-is : (set : List Bool) (by : ℕ) → HasRecurred system search set by → search.clock - 1 ≡ search.kept + by - 1
  last-is set by recurred = let p = recurred.period in omega (arith, p)

  pub some-moment : (set : List Bool) (by : ℕ) → HasRecurred system search set by → 1 ≤ search.clock
  some-moment set by recurred = let some = recurred.recurs.recurs.some in omega (arith, some, recurred.by_is, recurred.period)

-- the flags of all threads, one by one
pub all-ended : (system : System) (rows : List What) (doings : Doings) → doings ≡ doings_of system rows →
    map (λ thread. get_or doings.ended thread false) (range_with_len 0 (length system.threads)) ≡ doings.ended
all-ended system rows doings is =
    let many : length doings.ended ≡ length system.threads =
    ap (λ (d : Doings). length d.ended) is ∙ length-map-range_with_len _ 0 (length system.threads) in
    sym (fill_by_all (λ thread. get_or doings.ended thread false) doings.ended (length system.threads) false many (λ k l. refl))
