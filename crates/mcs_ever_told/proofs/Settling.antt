-- A thread or a notification without a finding by the end of the first period never has one.
use Rattle.std.specs.Prelude.{◌==◌, not}
use Rattle.std.proofs.lemmas.Bool.Decides.{nat_tests}
use Rattle.std.proofs.Common.{◌≡◌, ℕ, suc, ◌+◌, ◌-◌, ◌<◌, ◌≤◌, Bool, true, false, ◌&&◌, cond, List, [], length, get_or, Option, Some, None, refl, sym, ap, subst, ◌∙◌, arith}
use Rattle.mcs_core.specs.Clock.{schedule}
use Rattle.mcs_system.specs.System.{System, no_thread, thread_part, note_part, core_of}
use Rattle.mcs_system.specs.WellFormed.{IsWellFormed}
use Rattle.mcs_verdict.specs.declared.finding.Finding.{Finding}
use Rattle.mcs_verdict.specs.Findings.{past_of}
use Rattle.mcs_verdict.specs.Rounds.{first_wait}
use Rattle.mcs_verdict_laws.specs.laws.Horizons.{has_miss_of}
use Rattle.mcs_ever.specs.Closed.{has}
use Rattle.mcs_ever.specs.Recurs.{Shifts}
use Rattle.mcs_ever_found.specs.Period.{far, ends_in_period, is_taken_in_period}
use Rattle.mcs_ever_found.specs.Recurs.{past_before, FindingsRecur}
use Rattle.mcs_ever_found.specs.laws.GoOn.{ThreadGoesOn, WordGoesOn, ThreadsGoOn, WordsGoOn}
use Rattle.mcs_ever_found.specs.laws.Never.{has_lost_of, told_up_to, NoDeadlineIsMissed, NoSignalIsLost}
use Rattle.mcs_ever_found.proofs.Scripts.{waits-first}
use Rattle.mcs_ever_told.specs.declared.outlook.told.Period.{Period}
use Rattle.mcs_ever_told.specs.declared.line.Line.{Line}
use Rattle.mcs_ever_told.specs.declared.line.Line.TheVariants.{Miss, Lost}
use Rattle.mcs_ever_told.specs.Lines.{of_threads, of_notes, count_lines, ever_lines, abandoned_told, ever_told, inactive_told, is_some, misses_of, losses_of, is_own_thread, is_own_note}
use Rattle.mcs_ever_told.specs.Outlook.{course_before, course_up_to, unended_at, last_of, ThreadIsSettled, WordIsSettled, told_miss, told_loss, told_ever, told_abandoned, endless, abandoned, AreSettled, found_in_period, NothingIsEverFound}
use Rattle.mcs_ever_told.proofs.Counted.{no-miss, no-loss}
use Rattle.mcs_ever_told.proofs.Numbers.{front, back, none-told}
use Rattle.mcs_ever_told.proofs.Unended.{overdue-told, never-none, word-told}

-- a line that is not there was not asked for
not-two : (own is : Bool) (l : Line) → own ≡ true → cond (own && is) (Some l) None ≡ None → is ≡ false
not-two true true l e none = cc
not-two true false l e none = refl
not-two false is l e none = cc

not-three : (own allows is : Bool) (l : Line) → own ≡ true → allows ≡ false → cond (own && (not allows && is)) (Some l) None ≡ None → is ≡ false
not-three true false true l e f none = cc
not-three true false false l e f none = refl
not-three true true is l e f none = cc
not-three false allows is l e f none = cc

-- a count that is 0 in each period and before the first one is 0 up to the end of that
count-none : (before after : ℕ) → not (before + (after - before) == 0) ≡ false → after ≡ 0
count-none before after e = grind (arith, nat_tests)

-- the line of what is reported with the set
own-line : (own : Bool) (o : Option Line) → own ≡ true → cond own o None ≡ None → o ≡ None
own-line true o e none = none
own-line false o e none = cc

module _ (system : System) (well : IsWellFormed system) (allowed set own : List Bool) (within_set : (c : ℕ) → has own c ≡ true → has set c ≡ true)
    (shifts : Shifts) (p : Period) (by : shifts.by ≡ p.ticks) (recurs : FindingsRecur system (has set) shifts p.from) where
  over : p.from + shifts.by ≤ suc (last_of p)
  over = let some = recurs.recurs.some in omega (arith, some, by)

  -- a thread of these cores
  module _ (thread : ℕ) (known : thread < length system.threads) (mine : is_own_thread system own thread ≡ true) where
    inside : has set (core_of system (thread_part system thread)) ≡ true
    inside = within_set (core_of system (thread_part system thread)) mine

    missed-none : told_miss system own p thread ≡ None → has_miss_of thread (told_up_to system (last_of p)) ≡ false
    missed-none none =
        let often = misses_of system own true (course_before system p.from) (course_up_to system (last_of p)) thread in
        let no : is_some (misses_of system own true (course_before system p.from) (course_up_to system (last_of p)) thread) ≡ false =
        not-two (is_own_thread system own thread) (is_some often) (Miss thread often) mine none in
        no-miss system (last_of p) thread known
        (count-none (get_or (course_before system p.from).misses thread 0) (get_or (course_up_to system (last_of p)).misses thread 0) no)

    module _ (law : ThreadsGoOn) where
      goes : ThreadGoesOn system p.ticks p.from thread
      goes =
          let P : ℕ → Type 0 = λ by. ThreadGoesOn system by p.from thread in
          subst P by (law system (has set) shifts p.from well recurs thread known inside)

      endless-none : told_ever system own p thread ≡ None → endless system own p thread ≡ None
      endless-none none =
          overdue-told system (past_before system (p.from + p.ticks)) far thread (ends_in_period system p.ticks p.from thread) (unended_at system (last_of p) thread)
          (own-line (is_own_thread system own thread) (ever_told thread (endless system own p thread) (unended_at system (last_of p) thread)) mine none)

      inactive-none : told_ever system own p thread ≡ None → inactive_told thread (unended_at system (last_of p) thread) ≡ None
      inactive-none none =
          ap (λ (o : Option Finding). ever_told thread o (unended_at system (last_of p) thread)) (sym (endless-none none))
          ∙ own-line (is_own_thread system own thread) (ever_told thread (endless system own p thread) (unended_at system (last_of p) thread)) mine none

      thread-so : ThreadIsSettled system own p thread
      thread-so =
          record {
            in_time = λ no_miss none h. goes.in_time none (missed-none no_miss) h;
            activated = λ no_miss none h l.
                let here = goes.in_time (endless-none none) (missed-none no_miss) (last_of p) in
                goes.never h (omega (arith, l))
                ∙ never-none system (past_of [] (schedule system (last_of p))) (last_of p) thread here.overdue (inactive-none none);
          }

  -- a notification of these cores
  module _ (note : ℕ) (known : note < length system.notes) (mine : is_own_note system own note ≡ true) where
    note-inside : has set (note_part system note).core ≡ true
    note-inside = within_set (note_part system note).core mine

    lost-none : has allowed note ≡ false → told_loss system allowed own p note ≡ None → has_lost_of note (told_up_to system (last_of p)) ≡ false
    lost-none allows none =
        let often = losses_of system own true (course_before system p.from) (course_up_to system (last_of p)) note in
        let no : is_some (losses_of system own true (course_before system p.from) (course_up_to system (last_of p)) note) ≡ false =
        not-three (is_own_note system own note) (has allowed note) (is_some often) (Lost note often) mine allows none in
        no-loss system (last_of p) note known
        (count-none (get_or (course_before system p.from).losses note 0) (get_or (course_up_to system (last_of p)).losses note 0) no)

    -- the threads that wait first for it are on its core
    taker-own : (thread : ℕ) → thread < length system.threads → first_wait (thread_part system thread) ≡ Some note → is_own_thread system own thread ≡ true
    taker-own thread l waits =
        let there = waits-first system (core_of system (thread_part system thread)) (thread_part system thread).script note (well.threads thread no_thread l).items waits in
        ap (has own) (sym there.1) ∙ mine

    word-so : ThreadsGoOn → WordsGoOn → WordIsSettled system own p note
    word-so threads_law law none takers h =
        let P : ℕ → Type 0 = λ by. WordGoesOn system by p.from note in
        let on = subst P by (law system (has set) shifts p.from well recurs note known note-inside) in
        on.taken
        (word-told far note system (past_before system (p.from + p.ticks)) (is_taken_in_period system p.ticks p.from note)
        (own-line (is_own_note system own note) (abandoned_told note (abandoned system own p note)) mine none))
        (λ thread l waits.
        let both = takers thread l waits in
        (thread-so thread l (taker-own thread l waits) threads_law).in_time both.0 both.1) h

  -- what has no line is settled
  pub all-settled : NoDeadlineIsMissed → NoSignalIsLost → ThreadsGoOn → WordsGoOn → AreSettled system allowed own p
  all-settled miss_law loss_law threads_law words_law =
      record {
        misses = λ thread l mine none h.
            miss_law system (has set) shifts p.from well recurs thread (inside thread l mine) (last_of p) over (missed-none thread l mine none) h;
        threads = λ thread l mine. thread-so thread l mine threads_law;
        notes = λ note l mine allows none h.
            loss_law system (has set) shifts p.from well recurs note (note-inside note l mine) (last_of p) over (lost-none note l mine allows none) h;
        words = λ note l mine. word-so note l mine threads_law words_law;
      }

-- without a line of a finding, nothing is ever found
module _ (system : System) (well : IsWellFormed system) (allowed own : List Bool) (p : Period) (settled : AreSettled system allowed own p)
    (none : found_in_period system allowed own p ≡ []) where
  abbrev counts : List Line
  counts = count_lines system own true (course_before system p.from) (course_up_to system (last_of p)) allowed

  abbrev ever : List Line
  ever = ever_lines system own (endless system own p) (unended_at system (last_of p)) (abandoned system own p)

  no-misses : (thread : ℕ) → thread < length system.threads → told_miss system own p thread ≡ None
  no-misses thread l =
      none-told (told_miss system own p) (length system.threads)
      (front (of_threads system (told_miss system own p)) (of_notes system (told_loss system allowed own p)) (front counts ever none)) thread l

  no-losses : (note : ℕ) → note < length system.notes → told_loss system allowed own p note ≡ None
  no-losses note l =
      none-told (told_loss system allowed own p) (length system.notes)
      (back (of_threads system (told_miss system own p)) (of_notes system (told_loss system allowed own p)) (front counts ever none)) note l

  no-rounds : (thread : ℕ) → thread < length system.threads → told_ever system own p thread ≡ None
  no-rounds thread l =
      none-told (told_ever system own p) (length system.threads)
      (front (of_threads system (told_ever system own p)) (of_notes system (told_abandoned system own p)) (back counts ever none)) thread l

  no-words : (note : ℕ) → note < length system.notes → told_abandoned system own p note ≡ None
  no-words note l =
      none-told (told_abandoned system own p) (length system.notes)
      (back (of_threads system (told_ever system own p)) (of_notes system (told_abandoned system own p)) (back counts ever none)) note l

  no-endless : (thread : ℕ) → thread < length system.threads → is_own_thread system own thread ≡ true → endless system own p thread ≡ None
  no-endless thread l mine =
      overdue-told system (past_before system (p.from + p.ticks)) far thread (ends_in_period system p.ticks p.from thread) (unended_at system (last_of p) thread)
      (own-line (is_own_thread system own thread) (ever_told thread (endless system own p thread) (unended_at system (last_of p) thread)) mine (no-rounds thread l))

  pub clean : NothingIsEverFound system allowed own p
  clean =
      record {
        threads = λ thread l mine. (settled.threads thread l mine).in_time (no-misses thread l) (no-endless thread l mine);
        activated = λ thread l mine. (settled.threads thread l mine).activated (no-misses thread l) (no-rounds thread l);
        notes = λ note l mine allows. settled.notes note l mine allows (no-losses note l);
        words = λ note l mine.
            settled.words note l mine (no-words note l)
            (λ thread k waits.
            let there = waits-first system (core_of system (thread_part system thread)) (thread_part system thread).script note (well.threads thread no_thread k).items waits in
            (no-misses thread k, no-endless thread k (ap (has own) (sym there.1) ∙ mine)));
      }
