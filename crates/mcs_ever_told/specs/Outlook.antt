-- The results of a check for all time, and what they mean.
use Rattle.std.specs.Prelude.{◌≡◌, ℕ, ◌+◌, ◌-◌, ◌<◌, ◌≤◌, Bool, true, false, List, [], ◌∷◌, ◌++◌, length, get_or, Option, Some, None}
use Rattle.std.specs.List.{AllByRecursion}
use Rattle.mcs_system.specs.System.{System, thread_part}
use Rattle.mcs_core.specs.Clock.{schedule}
use Rattle.mcs_verdict.specs.declared.finding.Finding.{Finding}
use Rattle.mcs_verdict.specs.Findings.{past_of}
use Rattle.mcs_verdict.specs.Misses.{unended}
use Rattle.mcs_verdict.specs.Rounds.{first_wait}
use Rattle.mcs_verdict_laws.specs.laws.Horizons.{has_miss_of}
use Rattle.mcs_ever.specs.Recurs.{Shifts}
use Rattle.mcs_ever.specs.Closed.{has, AreLeastClosed}
use Rattle.mcs_ever_again.specs.Period.{told_between}
use Rattle.mcs_ever_found.specs.Recurs.{past_before, FindingsRecur}
use Rattle.mcs_ever_found.specs.laws.GoOn.{never_up_to, untaken_up_to}
use Rattle.mcs_ever_found.specs.laws.Never.{has_lost_of, told_up_to, IsInTime}
use Rattle.mcs_ever_found.specs.Doings.{doings_of}
use Rattle.mcs_ever_found.specs.Course.{misses, losses, Course, course_of}
use Rattle.mcs_ever_found.specs.Period.{endless_round, abandoned_word}
use Rattle.mcs_ever_told.specs.declared.line.Line.{Line}
use Rattle.mcs_ever_told.specs.declared.line.Line.TheVariants as line
use Rattle.mcs_ever_told.specs.declared.outlook.told.Period.{Period}
use Rattle.mcs_ever_told.specs.declared.outlook.told.Told.{Told}
use Rattle.mcs_ever_told.specs.Sets.{own_of, firsts}
use Rattle.mcs_ever_told.specs.ForEver.{RowsRepeat, IsOften, ThreadIsSo, ComputesForEver, IsEndless, IsInactive, IsAbandoned}
use Rattle.mcs_ever_told.specs.Lines.{count_lines, end_lines, ever_line, ever_lines, abandoned_line, thread_lines, threads_so_far, clean_lines, miss_line, lost_line, is_own_thread, is_own_note}

module _ (system : System) where
  -- the counts of the rows before a moment, and of those up to a horizon
  abbrev pub course_before : ℕ → Course
  course_before t = course_of system (past_before system t)

  abbrev pub course_up_to : ℕ → Course
  course_up_to horizon = course_of system (past_of [] (schedule system horizon))

  -- for each thread, whether a round of it ended between two moments
  abbrev pub ended_between : ℕ → ℕ → List Bool
  ended_between from past = (doings_of system (told_between system from past)).ended

  -- the finding of a thread at the end of a run
  abbrev pub unended_at : ℕ → ℕ → Option Finding
  unended_at horizon thread = unended system (past_of [] (schedule system horizon)) horizon thread

  -- at no horizon a round of the thread has missed its deadline, and none is overdue; a word of the
  -- notification is untaken at no horizon
  abbrev pub IsAlwaysInTime : ℕ → Type 0
  IsAlwaysInTime thread = (h : ℕ) → IsInTime system h thread

  abbrev pub IsNeverUntaken : ℕ → Type 0
  IsNeverUntaken note = (h : ℕ) → untaken_up_to system h note ≡ None

  -- a thread misses no deadline up to any horizon; a notification loses no signal up to any horizon
  abbrev pub NeverMisses : ℕ → Type 0
  NeverMisses thread = (h : ℕ) → has_miss_of thread (told_up_to system h) ≡ false

  abbrev pub NeverLoses : ℕ → Type 0
  NeverLoses note = (h : ℕ) → has_lost_of note (told_up_to system h) ≡ false

-- the last moment of the first period
abbrev pub last_of : Period → ℕ
last_of p = p.from + p.ticks - 1

-- the thread was activated by then: at no horizon from the last moment of the first period on is it
-- one that was never activated
abbrev pub IsEverActivated : System → Period → ℕ → Type 0
IsEverActivated system p thread = (h : ℕ) → p.from + p.ticks ≤ h + 1 → never_up_to system h thread ≡ None

module _ (system : System) (own : List Bool) (p : Period) where
  -- for a thread that is reported with the set: its missed deadlines
  abbrev pub told_miss : ℕ → Option Line
  told_miss = miss_line system own true (course_before system p.from) (course_up_to system (last_of p))

  -- the round of a thread that never ends, and the word of a notification that nobody ever takes
  abbrev pub endless : ℕ → Option Finding
  endless = endless_round system p.ticks p.from

  abbrev pub abandoned : ℕ → Option Finding
  abandoned = abandoned_word system p.ticks p.from

  -- the line of that round, or of a thread that is never activated; and the line of that word
  abbrev pub told_ever : ℕ → Option Line
  told_ever = ever_line system own endless (unended_at system (last_of p))

  abbrev pub told_abandoned : ℕ → Option Line
  told_abandoned = abandoned_line system own abandoned

  -- a thread without a line of misses never misses a deadline
  abbrev pub MissesAreTold : ℕ → Type 0
  MissesAreTold thread = is_own_thread system own thread ≡ true → told_miss thread ≡ None → NeverMisses system thread

  -- A thread with neither a line of misses nor an endless round is always in time. With neither line
  -- it is also activated by the end of the first period
  pub record ThreadIsSettled (thread : ℕ) : Type 0 where
    pub in_time : told_miss thread ≡ None → endless thread ≡ None → IsAlwaysInTime system thread
    pub activated : told_miss thread ≡ None → told_ever thread ≡ None → IsEverActivated system p thread

  -- a notification without a line of its word is never untaken, if each thread that waits first for
  -- it has neither a line of misses nor an endless round
  abbrev pub WordIsSettled : ℕ → Type 0
  WordIsSettled note =
      told_abandoned note ≡ None →
      ((thread : ℕ) → thread < length system.threads → first_wait (thread_part system thread) ≡ Some note →
      (told_miss thread ≡ None) × (endless thread ≡ None)) →
      IsNeverUntaken system note

module _ (system : System) (allowed own : List Bool) (p : Period) where
  -- the lost signals of a notification that may lose none
  abbrev pub told_loss : ℕ → Option Line
  told_loss = lost_line system own true (course_before system p.from) (course_up_to system (last_of p)) allowed

  -- a notification without that line never loses a signal
  abbrev pub NoteIsSettled : ℕ → Type 0
  NoteIsSettled note =
      is_own_note system own note ≡ true → has allowed note ≡ false → told_loss note ≡ None → NeverLoses system note

  -- the misses, the end and the lost signals of what is reported with the set are as its lines say,
  -- and so are the words that nobody takes
  pub record AreSettled : Type 0 where
    pub misses : (thread : ℕ) → thread < length system.threads → MissesAreTold system own p thread
    pub threads : (thread : ℕ) → thread < length system.threads → is_own_thread system own thread ≡ true → ThreadIsSettled system own p thread
    pub notes : (note : ℕ) → note < length system.notes → NoteIsSettled note
    pub words : (note : ℕ) → note < length system.notes → is_own_note system own note ≡ true → WordIsSettled system own p note

  -- the findings of cores that recur
  abbrev pub found_in_period : List Line
  found_in_period =
      count_lines system own true (course_before system p.from) (course_up_to system (last_of p)) allowed
      ++ ever_lines system own (endless system own p) (unended_at system (last_of p)) (abandoned system own p)

-- No finding for ever. No thread of these cores ever misses a deadline or is overdue, and from the
-- last moment of the first period on none was never activated. No notification of them that may lose
-- no signal ever loses one, and no word of them is ever untaken
pub record NothingIsEverFound (system : System) (allowed own : List Bool) (p : Period) : Type 0 where
  pub threads : (thread : ℕ) → thread < length system.threads → is_own_thread system own thread ≡ true → IsAlwaysInTime system thread
  pub activated : (thread : ℕ) → thread < length system.threads → is_own_thread system own thread ≡ true → IsEverActivated system p thread
  pub notes : (note : ℕ) → note < length system.notes → is_own_note system own note ≡ true → has allowed note ≡ false →
      NeverLoses system note
  pub words : (note : ℕ) → note < length system.notes → is_own_note system own note ≡ true → IsNeverUntaken system note

module _ (system : System) (allowed own : List Bool) (p : Period) where
  -- what each line of a set that recurs says, of all horizons. Such a set has no lines of a horizon,
  -- and none of a repetition that was not found
  abbrev pub HoldsForEver : Line → Type 0
  HoldsForEver (line.Repeats cores from period) = RowsRepeat system cores from period
  HoldsForEver (line.Miss thread often) = IsOften system p (misses system thread) often
  HoldsForEver (line.Lost note often) = IsOften system p (losses system note) often
  HoldsForEver (line.Endless thread number activated) = IsEndless system p thread number activated
  HoldsForEver (line.Inactive thread) = IsInactive system p thread
  HoldsForEver (line.Abandoned note word set) = IsAbandoned system p note word set
  HoldsForEver (line.Thread thread response never_throttled silent_from) = ThreadIsSo system p thread response never_throttled silent_from
  HoldsForEver (line.Computes thread never_throttled) = ComputesForEver system thread never_throttled
  HoldsForEver (line.Clean cores) = NothingIsEverFound system allowed own p
  HoldsForEver (line.Open cores horizon) = ⊥
  HoldsForEver (line.Overdue thread moment) = ⊥
  HoldsForEver (line.Never thread moment) = ⊥
  HoldsForEver (line.Untaken note moment) = ⊥
  HoldsForEver (line.ThreadSoFar thread response) = ⊥
  HoldsForEver (line.Sets totals) = ⊥

-- notifications that may lose signals, the horizon, a set of cores, and those of its cores that are
-- reported with it
module _ (system : System) (allowed : List Bool) (horizon : ℕ) (set own : List Bool) where
  -- all lines of a set that recurs
  abbrev pub period_lines : Period → List Line
  period_lines p =
      line.Repeats set p.from p.ticks ∷ (found_in_period system allowed own p
      ++ (thread_lines system own (course_up_to system (last_of p)) p.from (ended_between system p.from (p.from + p.ticks))
      ++ clean_lines set (found_in_period system allowed own p)))

  -- the findings of a set that was not found to recur
  abbrev pub found_so_far : List Line
  found_so_far =
      count_lines system own false (course_up_to system horizon) (course_up_to system horizon) allowed
      ++ end_lines system own horizon (unended_at system horizon) (untaken_up_to system horizon)

  abbrev pub open_lines : List Line
  open_lines = line.Open set horizon ∷ (found_so_far ++ threads_so_far system own (course_up_to system horizon))

  abbrev pub lines_of : Option Period → List Line
  lines_of (Some p) = period_lines p
  lines_of None = open_lines

  abbrev pub found_of : Option Period → List Line
  found_of (Some p) = found_in_period system allowed own p
  found_of None = found_so_far

  -- the set recurs with this period, in its findings, too; each of its lines holds for ever; what has
  -- no line has no finding; and if there is none, nothing is ever found
  pub record Repeats (p : Period) : Type 0 where
    pub shifts : Shifts
    pub by : shifts.by ≡ p.ticks
    pub recurs : FindingsRecur system (has set) shifts p.from
    pub lines_hold : AllByRecursion (HoldsForEver system allowed own p) (period_lines p)
    pub settled : AreSettled system allowed own p
    pub clean : found_in_period system allowed own p ≡ [] → NothingIsEverFound system allowed own p

  abbrev pub IsTrueOf : Option Period → Type 0
  IsTrueOf (Some p) = Repeats p
  IsTrueOf None = Unit {0}

  -- the result of the set is true, and these are its lines and the number of its findings
  pub record IsTold (told : Told) : Type 0 where
    pub cores : told.set ≡ set
    pub so : IsTrueOf told.period
    pub lines : told.lines.items ≡ lines_of told.period
    pub findings : told.findings ≡ length (found_of told.period)

-- each closed set, which no core outside it signals, has a result, in order of the first core whose
-- smallest closed set it is
pub record AreTold (system : System) (allowed : List Bool) (horizon : ℕ) (told : List Told) : Type 0 where
  pub sets : List (List Bool)
  pub closed : AreLeastClosed system sets
  pub many : length told ≡ length (firsts sets)
  pub each : (i : ℕ) (d : Told) → i < length told →
      IsTold system allowed horizon (get_or sets (get_or (firsts sets) i 0) []) (own_of sets (get_or (firsts sets) i 0)) (get_or told i d)
