-- The lines of a set that recurs hold for ever.
use Rattle.std.proofs.Common.{◌≡◌, ℕ, zero, suc, ◌+◌, ◌-◌, ◌*◌, ◌<◌, ◌≤◌, Bool, true, false, cond, ◌||◌, ◌&&◌, List, [], ◌∷◌, ◌++◌, length, map, get_or, Option, Some, None, refl, sym, ap, subst, ◌∙◌, arith}
use Rattle.std.specs.Prelude.{◌==◌, ◌^◌, not, IfSome}
use Rattle.std.specs.List.{AllByRecursion, filter, filter_map, list_any, range_with_len}
use Rattle.std.proofs.lemmas.Bool.Decides.{nat_tests}
use Rattle.std.proofs.lemmas.List.FromFn.{get_or-map-range_with_len}
use Rattle.mcs_stretch.proofs.Later.{takes_time}
use Rattle.mcs_ticks.specs.Capped.{capped}
use Rattle.mcs_ticks.specs.declared.row.Row.{Row}
use Rattle.mcs_script.specs.declared.item.Item.{Item}
use Rattle.mcs_script.specs.declared.item.Item.TheVariants.{Compute, Signal, Wait, Yield, On, Spin, Enter, Leave}
use Rattle.mcs_system.specs.System.{System, thread_part, note_part, core_of}
use Rattle.mcs_system.specs.WellFormed.{IsWellFormed}
use Rattle.mcs_core.specs.Clock.{clock, turn_of, schedule}
use Rattle.mcs_verdict.specs.declared.finding.Finding.{Finding}
use Rattle.mcs_verdict.specs.declared.finding.Finding.TheVariants.{Miss, Overdue, Untaken, Lost, Never}
use Rattle.mcs_verdict.specs.declared.held.Held.{Held}
use Rattle.mcs_verdict.specs.declared.job.Job.{Job}
use Rattle.mcs_verdict.specs.Misses.{never}
use Rattle.mcs_verdict.specs.Findings.{past_of}
use Rattle.mcs_verdict.specs.Jobs.{jobs_in}
use Rattle.mcs_ever.specs.Closed.{has}
use Rattle.mcs_ever.specs.Later.{later_what}
use Rattle.mcs_ever.specs.Recurs.{Shifts, shift_of}
use Rattle.mcs_ever.specs.laws.Repeats.{TurnsRepeat, ends_round, NoRoundEndsAgain}
use Rattle.mcs_verdict_laws.proofs.Due.{due-there, known-held}
use Rattle.mcs_verdict_laws.proofs.Standings.{past-append}
use Rattle.mcs_ever_again.specs.Period.{told_between}
use Rattle.mcs_ever_again.specs.Schedule.{RowsTellTurns}
use Rattle.mcs_ever_found.specs.Recurs.{past_before, FindingsRecur}
use Rattle.mcs_ever_found.specs.Course.{misses, losses, greatest, was_spent, Course}
use Rattle.mcs_ever_found.specs.Period.{whats, far, ends_in_period, is_taken_in_period}
use Rattle.mcs_ever_found.specs.laws.Course.{is_at_most, is_within, GreatestIsForever, NeverSpent}
use Rattle.mcs_ever_found.specs.laws.GoOn.{ThreadGoesOn, WordGoesOn, ThreadsGoOn, WordsGoOn}
use Rattle.mcs_ever_found.specs.laws.Repeats.{is_of_group, FindingsRepeat}
use Rattle.mcs_ever_found.proofs.Flags.{flag-at}
use Rattle.mcs_ever_found.proofs.Quiet.{ends-none}
use Rattle.mcs_ever_told.specs.declared.line.Line.{Line}
use Rattle.mcs_ever_told.specs.declared.line.Line.TheVariants as line
use Rattle.mcs_ever_told.specs.declared.outlook.told.Period.{Period}
use Rattle.mcs_ever_told.specs.stored.Told.{if_some}
use Rattle.mcs_ever_told.specs.Lines.{is_some, silent_from, inactive_told, ever_told, ever_line, abandoned_told, abandoned_line, misses_of, losses_of, miss_line, lost_line, spins, thread_told, thread_line, clean_lines, is_own_thread, is_own_note, of_threads, of_notes, count_lines, ever_lines, thread_lines}
use Rattle.mcs_ever_told.specs.ForEver.{RowsRepeat, IsNeverLonger, IsNeverThrottled, IsSilentFrom, ThreadIsSo, Happens}
use Rattle.mcs_ever_told.specs.Outlook.{course_before, course_up_to, ended_between, unended_at, last_of, endless, abandoned, AreSettled, found_in_period, NothingIsEverFound, HoldsForEver, period_lines}
use Rattle.mcs_ever_told.proofs.Numbers.{told-more}
use Rattle.mcs_ever_told.proofs.Since.{rows-on}
use Rattle.mcs_ever_told.proofs.Settling.{clean}
use Rattle.mcs_ever_told.proofs.Unended.{overdue-of, never-is, word-of}
use Rattle.mcs_ever_told.proofs.Growing.{exact-first, exact-more}
use Rattle.mcs_ever_told.proofs.Reaching.{AtMost, same-maximum, grows, stays}
use Rattle.mcs_ever_told.proofs.Counting.{no-fewer-misses, each-miss, no-fewer-losses, each-loss}

-- what holds of each line, line by line
module _ (P : Line → Type 0) where
  abbrev All : List Line → Type 0
  All lines = AllByRecursion P lines

  all-both : (xs ys : List Line) → All xs → All ys → All (xs ++ ys)
  all-both [] ys g h = h
  all-both (x ∷ xs) ys g h = (g.0, all-both xs ys g.1 h)

  one-told : (o : Option Line) → IfSome o P → All (if_some o)
  one-told None h = tt
  one-told (Some l) h = (h, tt)

  all-told : (tell : ℕ → Option Line) (n : ℕ) → ((k : ℕ) → k < n → IfSome (tell k) P) → All (filter_map tell (range_with_len 0 n))
  all-told tell zero each = tt
  all-told tell (suc n) each =
      let s : n + 1 ≡ suc n = omega arith in
      let N : ℕ → Type 0 = λ n. All (filter_map tell (range_with_len 0 n)) in
      subst N s
      (subst All (sym (told-more tell n))
      (all-both (filter_map tell (range_with_len 0 n)) (if_some (tell n)) (all-told tell n (λ k l. each k (omega (arith, l)))) (one-told (tell n) (each n (omega arith)))))

  if-so : (b : Bool) (l : Line) → (b ≡ true → P l) → IfSome (cond b (Some l) None) P
  if-so true l h = h refl
  if-so false l h = tt

second-of : (a b : Bool) → (a && b) ≡ true → b ≡ true
second-of true b e = e
second-of false b e = cc

first-of : (a b : Bool) → (a && b) ≡ true → a ≡ true
first-of true b e = refl
first-of false b e = e

spins-alone : (script : List Item) → spins script ≡ true → script ≡ Spin ∷ []
spins-alone [] e = cc
spins-alone (Spin ∷ []) e = refl
spins-alone (Spin ∷ item ∷ script) e = cc
spins-alone (Compute ticks ∷ script) e = cc
spins-alone (Signal note badge ∷ script) e = cc
spins-alone (Wait note ∷ script) e = cc
spins-alone (Yield ∷ script) e = cc
spins-alone (On badges ∷ script) e = cc
spins-alone (Enter server priority ∷ script) e = cc
spins-alone (Leave server priority ∷ script) e = cc

-- the jobs of a thread of the group
module _ (system : System) (group : ℕ → Bool) (thread : ℕ) (past : List Row) (mine : group (core_of system (thread_part system thread)) ≡ true) where
  same : (a b : ℕ) → a ≡ b → (a == b) ≡ true
  same a b e = grind (arith, nat_tests)

  within : (job : Job) → is_within system thread past job ≡ true → job.thread ≡ thread → is_at_most (greatest system thread past) job.response ≡ true
  within job h e = sym (ap (λ b. not b || is_at_most (greatest system thread past) job.response) (same job.thread thread e)) ∙ h

  own-jobs : (jobs : List Job) → AllByRecursion (λ job. is_within system thread past job ≡ true) (filter (is_of_group system group) jobs) →
      AllByRecursion (λ (job : Job). job.thread ≡ thread → is_at_most (greatest system thread past) job.response ≡ true) jobs
  own-jobs [] h = tt
  own-jobs (job ∷ jobs) h = by (is_of_group system group job) refl (λ h. own-jobs jobs h) h
    where
      rest : List Job
      rest = filter (is_of_group system group) jobs

      by : (b : Bool) → is_of_group system group job ≡ b →
          (AllByRecursion (λ job. is_within system thread past job ≡ true) rest →
          AllByRecursion (λ (job : Job). job.thread ≡ thread → is_at_most (greatest system thread past) job.response ≡ true) jobs) →
          AllByRecursion (λ job. is_within system thread past job ≡ true) (cond b (job ∷ rest) rest) →
          AllByRecursion (λ (job : Job). job.thread ≡ thread → is_at_most (greatest system thread past) job.response ≡ true) (job ∷ jobs)
      by true e more h = (λ is. within job h.0 is, more h.1)
      by false e more h =
          (λ is. let no : false ≡ true = sym e ∙ ap (λ (x : ℕ). group (core_of system (thread_part system x))) is ∙ mine in cc, more h)

module _ (system : System) (well : IsWellFormed system) (allowed set own : List Bool) (within_set : (c : ℕ) → has own c ≡ true → has set c ≡ true)
    (shifts : Shifts) (p : Period) (by : shifts.by ≡ p.ticks) (recurs : FindingsRecur system (has set) shifts p.from) where
  abbrev Holds : Line → Type 0
  Holds = HoldsForEver system allowed own p

  abbrev before : Course
  before = course_before system p.from

  abbrev after : Course
  after = course_up_to system (last_of p)

  -- the rows up to the last moment of the first period
  last-rows : past_of [] (schedule system (last_of p)) ≡ past_before system (p.from + shifts.by)
  last-rows =
      let some = recurs.recurs.some in
      let e : suc (p.from + p.ticks - 1) ≡ p.from + shifts.by = omega (arith, some, by) in
      ap (past_before system) e

  often : (count : List Row → ℕ) (b a : ℕ) → b ≡ capped (count (past_before system p.from)) → a ≡ capped (count (past_of [] (schedule system (last_of p)))) →
      count (past_before system p.from) ≤ count (past_before system (p.from + shifts.by)) →
      ((each : ℕ) → count (past_before system (p.from + shifts.by)) ≡ count (past_before system p.from) + each → (k : ℕ) →
      count (past_before system (p.from + (k + 1) * shifts.by)) ≡ count (past_before system (p.from + k * shifts.by)) + each) →
      b + (a - b) < 2 ^ 64 - 1 → Happens system p count b (a - b)
  often count b a is_b is_a more each few =
      let B = count (past_before system p.from) in
      let A = count (past_before system (p.from + shifts.by)) in
      let is_a_now : a ≡ capped (count (past_before system (p.from + shifts.by))) = is_a ∙ ap (λ rows. capped (count rows)) last-rows in
      let differ : a - b ≡ capped (count (past_before system (p.from + shifts.by))) - capped (count (past_before system p.from)) =
      ap (λ a. a - b) is_a_now ∙ ap (λ b. capped (count (past_before system (p.from + shifts.by))) - b) is_b in
      let few_both : capped (count (past_before system p.from)) + (capped (count (past_before system (p.from + shifts.by))) - capped (count (past_before system p.from))) < 2 ^ 64 - 1 =
      omega (arith, few, is_b, differ) in
      let P : ℕ → Type 0 = λ by. (k : ℕ) → count (past_before system (p.from + (k + 1) * by)) ≡ count (past_before system (p.from + k * by)) + (a - b) in
      record {
        first = exact-first B A more few_both ∙ sym is_b;
        each = subst P by (each (a - b) (exact-more B A more few_both ∙ ap (λ n. count (past_before system p.from) + n) (sym differ)));
      }

  module _ (law : FindingsRepeat) where
    miss-so : (thread : ℕ) → thread < length system.threads → IfSome (miss_line system own true before after thread) Holds
    miss-so thread l =
        if-so Holds (is_own_thread system own thread && is_some (misses_of system own true before after thread)) (line.Miss thread (misses_of system own true before after thread))
        (λ yes.
        let mine = within_set (core_of system (thread_part system thread)) (first-of (is_own_thread system own thread) (is_some (misses_of system own true before after thread)) yes) in
        often (misses system thread) (get_or before.misses thread 0) (get_or after.misses thread 0)
        (get_or-map-range_with_len (λ (x : ℕ). capped (misses system x (past_before system p.from))) 0 (length system.threads) thread thread 0 l (omega arith))
        (get_or-map-range_with_len (λ (x : ℕ). capped (misses system x (past_of [] (schedule system (last_of p))))) 0 (length system.threads) thread thread 0 l (omega arith))
        (no-fewer-misses system (has set) shifts p.from well recurs law thread mine)
        (each-miss system (has set) shifts p.from well recurs law thread mine))

    loss-so : (note : ℕ) → note < length system.notes → IfSome (lost_line system own true before after allowed note) Holds
    loss-so note l =
        if-so Holds (is_own_note system own note && (not (has allowed note) && is_some (losses_of system own true before after note))) (line.Lost note (losses_of system own true before after note))
        (λ yes.
        let mine = within_set (note_part system note).core (first-of (is_own_note system own note) (not (has allowed note) && is_some (losses_of system own true before after note)) yes) in
        often (losses system note) (get_or before.losses note 0) (get_or after.losses note 0)
        (get_or-map-range_with_len (λ (x : ℕ). capped (losses system x (past_before system p.from))) 0 (length system.notes) note note 0 l (omega arith))
        (get_or-map-range_with_len (λ (x : ℕ). capped (losses system x (past_of [] (schedule system (last_of p))))) 0 (length system.notes) note note 0 l (omega arith))
        (no-fewer-losses system (has set) shifts p.from well recurs law note mine)
        (each-loss system (has set) shifts p.from well recurs law note mine))

  -- the rounds that never end, and the threads that are never activated
  module _ (law : ThreadsGoOn) (thread : ℕ) (known : thread < length system.threads) (mine : has set (core_of system (thread_part system thread)) ≡ true) where
    goes : ThreadGoesOn system p.ticks p.from thread
    goes =
        let P : ℕ → Type 0 = λ by. ThreadGoesOn system by p.from thread in
        subst P by (law system (has set) shifts p.from well recurs thread known mine)

    inactive-so : (o : Option Finding) → unended_at system (last_of p) thread ≡ o → IfSome (inactive_told thread o) Holds
    inactive-so None e = tt
    inactive-so (Some (Miss x number response deadline activated queued stood)) e = tt
    inactive-so (Some (Overdue x number age deadline activated queued stood)) e = tt
    inactive-so (Some (Untaken note word age deadline set)) e = tt
    inactive-so (Some (Lost note word)) e = tt
    inactive-so (Some (Never x deadline)) e = λ h l.
        goes.never h (omega (arith, l)) ∙ never-is system (past_of [] (schedule system (last_of p))) (last_of p) thread x deadline e

    endless-so : (o : Option Finding) → endless system own p thread ≡ o → IfSome (ever_told thread o (unended_at system (last_of p) thread)) Holds
    endless-so None e = inactive-so (unended_at system (last_of p) thread) refl
    endless-so (Some (Miss x number response deadline activated queued stood)) e = inactive-so (unended_at system (last_of p) thread) refl
    endless-so (Some (Untaken note word age deadline set)) e = inactive-so (unended_at system (last_of p) thread) refl
    endless-so (Some (Lost note word)) e = inactive-so (unended_at system (last_of p) thread) refl
    endless-so (Some (Never x deadline)) e = inactive-so (unended_at system (last_of p) thread) refl
    endless-so (Some (Overdue x number age deadline activated queued stood)) e = λ h l m.
        let is = overdue-of system (past_before system (p.from + p.ticks)) far thread (ends_in_period system p.ticks p.from thread) x number age deadline activated queued stood e in
        let own_due : Some (Overdue x number age deadline activated queued stood) ≡ Some (Overdue thread number age (thread_part system thread).deadline activated queued stood) =
        ap (λ (y : ℕ). Some (Overdue y number age deadline activated queued stood)) is.0 ∙ ap (λ (d : ℕ). Some (Overdue thread number age d activated queued stood)) is.1 in
        goes.endless number age (thread_part system thread).deadline activated queued stood (e ∙ own_due) h (omega (arith, l)) m

  ever-so : ThreadsGoOn → (thread : ℕ) → thread < length system.threads → IfSome (ever_line system own (endless system own p) (unended_at system (last_of p)) thread) Holds
  ever-so law thread l = by_own (is_own_thread system own thread) refl
    where
      by_own : (b : Bool) → is_own_thread system own thread ≡ b → IfSome (cond b (ever_told thread (endless system own p thread) (unended_at system (last_of p) thread)) None) Holds
      by_own true mine = endless-so law thread l (within_set (core_of system (thread_part system thread)) mine) (endless system own p thread) refl
      by_own false mine = tt

  -- the words that nobody ever takes
  module _ (law : WordsGoOn) (note : ℕ) (known : note < length system.notes) (mine : has set (note_part system note).core ≡ true) where
    word-goes : WordGoesOn system p.ticks p.from note
    word-goes =
        let P : ℕ → Type 0 = λ by. WordGoesOn system by p.from note in
        subst P by (law system (has set) shifts p.from well recurs note known mine)

    word-so : (o : Option Finding) → abandoned system own p note ≡ o → IfSome (abandoned_told note o) Holds
    word-so None e = tt
    word-so (Some (Miss x number response deadline activated queued stood)) e = tt
    word-so (Some (Overdue x number age deadline activated queued stood)) e = tt
    word-so (Some (Lost x word)) e = tt
    word-so (Some (Never x deadline)) e = tt
    word-so (Some (Untaken x word age deadline set)) e =
        let is = word-of far note system (past_before system (p.from + p.ticks)) (is_taken_in_period system p.ticks p.from note) x word age deadline set e in
        let own_word : Some (Untaken x word age deadline set) ≡ Some (Untaken note word age deadline set) = ap (λ (n : ℕ). Some (Untaken n word age deadline set)) is.0 in
        record {
          deadline = deadline;
          due =
              sym (due-there system note (past_before system (p.from + p.ticks)) known)
              ∙ sym (ap (λ (held : Held). held.due) (known-held system note (past_before system (p.from + p.ticks)) known)) ∙ is.1;
          untaken = λ h l m. word-goes.abandoned word age deadline set (e ∙ own_word) h (omega (arith, l)) m;
        }

  abandoned-so : WordsGoOn → (note : ℕ) → note < length system.notes → IfSome (abandoned_line system own (abandoned system own p) note) Holds
  abandoned-so law note l = by_own (is_own_note system own note) refl
    where
      by_own : (b : Bool) → is_own_note system own note ≡ b → IfSome (cond b (abandoned_told note (abandoned system own p note)) None) Holds
      by_own true mine = word-so law note l (within_set (note_part system note).core mine) (abandoned system own p note) refl
      by_own false mine = tt

  -- the line of a thread
  module _ (thread : ℕ) (known : thread < length system.threads) (mine : has set (core_of system (thread_part system thread)) ≡ true) where
    response-is : get_or after.greatest thread None ≡ greatest system thread (past_before system (p.from + shifts.by))
    response-is =
        get_or-map-range_with_len (λ (x : ℕ). greatest system x (past_of [] (schedule system (last_of p)))) 0 (length system.threads) thread thread None known (omega arith)
        ∙ ap (greatest system thread) last-rows

    longest-so : GreatestIsForever → IsNeverLonger system thread (get_or after.greatest thread None)
    longest-so law h =
        let P : Option ℕ → Type 0 = λ o. AllByRecursion (λ (job : Job). job.thread ≡ thread → is_at_most o job.response ≡ true) (jobs_in system [] (schedule system h)) in
        subst P (sym response-is)
        (own-jobs system (has set) thread (past_before system (p.from + shifts.by)) mine (jobs_in system [] (schedule system h))
        (law system (has set) shifts p.from well recurs thread h))

    -- the rows up to a later horizon begin with those of the first period
    reached-so : GreatestIsForever → (h : ℕ) → p.from + p.ticks ≤ h + 1 → greatest system thread (past_of [] (schedule system h)) ≡ get_or after.greatest thread None
    reached-so law h l =
        let more = rows-on system (takes_time system well) (p.from + shifts.by) (suc h - (p.from + shifts.by)) in
        let e : p.from + shifts.by + (suc h - (p.from + shifts.by)) ≡ suc h = omega (arith, l, by) in
        let rows : past_of [] (schedule system h) ≡ past_of (past_before system (p.from + shifts.by)) more.0 =
        ap (past_before system) (sym e) ∙ ap (past_of []) more.1 ∙ past-append [] (clock system (p.from + shifts.by)).rows more.0 in
        let low = grows system thread (past_before system (p.from + shifts.by)) more.0 in
        let Low : Option ℕ → Type 0 = λ o. AtMost o (greatest system thread (past_of [] (schedule system h))) in
        let High : List Row → Type 0 = λ past. AtMost (greatest system thread (past_before system (p.from + shifts.by))) (greatest system thread past) in
        same-maximum (greatest system thread (past_of [] (schedule system h))) (get_or after.greatest thread None)
        (stays system thread [] (schedule system h) (get_or after.greatest thread None) tt (longest-so law h))
        (subst Low (sym response-is) (subst High (sym rows) low))

    throttled-so : NeverSpent → not (get_or after.spent thread false) ≡ true → IsNeverThrottled system thread
    throttled-so law never h =
        let told : get_or after.spent thread false ≡ was_spent thread (past_before system (p.from + shifts.by)) =
        get_or-map-range_with_len (λ (x : ℕ). was_spent x (past_of [] (schedule system (last_of p)))) 0 (length system.threads) thread thread false known (omega arith)
        ∙ ap (was_spent thread) last-rows in
        law system (has set) shifts p.from well recurs.recurs thread mine (sym told ∙ no (get_or after.spent thread false) never) (suc h)
      where
        no : (b : Bool) → not b ≡ true → b ≡ false
        no true e = sym e
        no false e = refl

    silent-so : NoRoundEndsAgain → RowsTellTurns system → (b : Bool) → get_or (ended_between system p.from (p.from + p.ticks)) thread false ≡ b →
        IsSilentFrom system thread (silent_from p.from b)
    silent-so law tell true e = tt
    silent-so law tell false e = λ h.
        let more = rows-on system (takes_time system well) p.from shifts.by in
        let l : p.from ≤ p.from + shifts.by = omega arith in
        let flag : list_any (ends_round thread) (told_between system p.from (p.from + p.ticks)) ≡ false =
        sym (flag-at ends_round (length system.threads) (told_between system p.from (p.from + p.ticks)) thread false known) ∙ e in
        let none : list_any (ends_round thread) (whats more.0) ≡ false =
        ap (list_any (ends_round thread)) (tell p.from (p.from + shifts.by) more.0 l more.1)
        ∙ ap (λ (by : ℕ). list_any (ends_round thread) (told_between system p.from (p.from + by))) by ∙ flag in
        law system (has set) shifts p.from well recurs.recurs thread mine
        (ends-none system (has set) shifts p.from well recurs.recurs more.0 more.1 thread mine none) h

  -- a thread that spins and has ended no job computes without end
  told-so : (thread : ℕ) (never : Bool) (silent : Option ℕ) (b : Bool) (response : Option ℕ) → (b ≡ true → (thread_part system thread).script ≡ Spin ∷ []) →
      ThreadIsSo system p thread response never silent → Holds (thread_told b thread response never silent)
  told-so thread never silent true None alone so = record { script = alone refl; endless = so.longest; throttled = so.throttled }
  told-so thread never silent true (Some response) alone so = so
  told-so thread never silent false None alone so = so
  told-so thread never silent false (Some response) alone so = so

  thread-so : GreatestIsForever → NeverSpent → NoRoundEndsAgain → RowsTellTurns system → (thread : ℕ) → thread < length system.threads →
      IfSome (thread_line system own after p.from (ended_between system p.from (p.from + p.ticks)) thread) Holds
  thread-so greatest_law spent_law silent_law tell thread l =
      let ended = ended_between system p.from (p.from + p.ticks) in
      let script = (thread_part system thread).script in
      if-so Holds (is_own_thread system own thread)
      (thread_told (spins script) thread (get_or after.greatest thread None) (not (get_or after.spent thread false))
      (silent_from p.from (get_or (ended_between system p.from (p.from + p.ticks)) thread false)))
      (λ yes.
      let mine = within_set (core_of system (thread_part system thread)) yes in
      told-so thread (not (get_or after.spent thread false)) (silent_from p.from (get_or (ended_between system p.from (p.from + p.ticks)) thread false))
      (spins script) (get_or after.greatest thread None) (spins-alone script)
      (record {
        longest = longest-so thread l mine greatest_law;
        reached = reached-so thread l mine greatest_law;
        throttled = throttled-so thread l mine spent_law;
        silent = silent-so thread l mine silent_law tell (get_or (ended_between system p.from (p.from + p.ticks)) thread false) refl;
      }))

  clean-so : (found : List Line) → (found ≡ [] → NothingIsEverFound system allowed own p) → AllByRecursion Holds (clean_lines set found)
  clean-so [] nothing = (nothing refl, tt)
  clean-so (l ∷ found) nothing = tt

  repeats-so : TurnsRepeat → RowsRepeat system set p.from p.ticks
  repeats-so law =
      let P : ℕ → Type 0 = λ by. (t c : ℕ) → p.from ≤ t → c < system.cores → has set c ≡ true →
      (turn_of system c (t + by)).rows ≡ map (later_what (shift_of shifts c)) (turn_of system c t).rows in
      record { shifts = shifts; by = by; each = subst P by (λ t c since known mine. law system (has set) shifts p.from well recurs.recurs t c since known mine) }

  -- all lines of the set
  pub lines-hold : TurnsRepeat → FindingsRepeat → GreatestIsForever → NeverSpent → NoRoundEndsAgain → ThreadsGoOn → WordsGoOn → RowsTellTurns system →
      AreSettled system allowed own p → (horizon : ℕ) → AllByRecursion (HoldsForEver system allowed own p) (period_lines system allowed horizon set own p)
  lines-hold turns_law law greatest_law spent_law silent_law threads_law words_law tell settled horizon =
      let miss = all-told Holds (miss_line system own true before after) (length system.threads) (λ k l. miss-so law k l) in
      let loss = all-told Holds (lost_line system own true before after allowed) (length system.notes) (λ k l. loss-so law k l) in
      let rounds = all-told Holds (ever_line system own (endless system own p) (unended_at system (last_of p))) (length system.threads) (λ k l. ever-so threads_law k l) in
      let words = all-told Holds (abandoned_line system own (abandoned system own p)) (length system.notes) (λ k l. abandoned-so words_law k l) in
      let threads = all-told Holds (thread_line system own after p.from (ended_between system p.from (p.from + p.ticks))) (length system.threads)
      (λ k l. thread-so greatest_law spent_law silent_law tell k l) in
      let last = clean-so (found_in_period system allowed own p) (clean system well allowed own p settled) in
      let counts = all-both Holds (of_threads system (miss_line system own true before after)) (of_notes system (lost_line system own true before after allowed)) miss loss in
      let ever = all-both Holds (of_threads system (ever_line system own (endless system own p) (unended_at system (last_of p))))
      (of_notes system (abandoned_line system own (abandoned system own p))) rounds words in
      let found = all-both Holds (count_lines system own true before after allowed)
      (ever_lines system own (endless system own p) (unended_at system (last_of p)) (abandoned system own p)) counts ever in
      let more = all-both Holds (thread_lines system own after p.from (ended_between system p.from (p.from + p.ticks)))
      (clean_lines set (found_in_period system allowed own p)) threads last in (
        repeats-so turns_law,
        all-both Holds (found_in_period system allowed own p)
            (thread_lines system own after p.from (ended_between system p.from (p.from + p.ticks)) ++ clean_lines set (found_in_period system allowed own p)) found more,
      )
