-- The lines of one set of cores.
use Rattle.std.specs.Prelude.{ℕ, ◌+◌, ◌-◌, Bool, true, false, ◌&&◌, not, ◌==◌, if◌then◌else◌, List, [], ◌∷◌, ◌++◌, length, get_or, Option, Some, None}
use Rattle.std.specs.List.{filter_map, range_with_len}
use Rattle.mcs_script.specs.declared.item.Item.{Item}
use Rattle.mcs_script.specs.declared.item.Item.TheVariants.{Spin}
use Rattle.mcs_system.specs.System.{System, thread_part, note_part, core_of}
use Rattle.mcs_verdict.specs.declared.finding.Finding.{Finding}
use Rattle.mcs_verdict.specs.declared.finding.Finding.TheVariants as finding
use Rattle.mcs_ever.specs.Closed.{has}
use Rattle.mcs_ever_found.specs.Course.{Course}
use Rattle.mcs_ever_told.specs.declared.line.Line.{Line}
use Rattle.mcs_ever_told.specs.declared.line.Line.TheVariants as line
use Rattle.mcs_ever_told.specs.declared.line.Often.{Often}
use Rattle.mcs_ever_told.specs.declared.line.Often.TheVariants.{Forever, SoFar}

-- the count in each period, and the count before the first one; or the count so far
abbrev pub often_of : Bool → ℕ → ℕ → Often
often_of true before times = Forever before (times - before)
often_of false before times = SoFar times

-- whether the count is not 0
abbrev pub is_some : Often → Bool
is_some (Forever before each_period) = not (before + each_period == 0)
is_some (SoFar times) = not (times == 0)

-- the time from which on a thread ends no round, if none ended in the first period
abbrev pub silent_from : ℕ → Bool → Option ℕ
silent_from from true = None
silent_from from false = Some from

-- whether a script is the one item `spin`
abbrev pub spins : List Item → Bool
spins (Spin ∷ []) = true
spins _ = false

-- the line of a thread, with its maximum response, whether it never exhausted its budget, and the
-- time from which on it ends no round; a thread that spins ends none at any time
abbrev pub thread_told : Bool → ℕ → Option ℕ → Bool → Option ℕ → Line
thread_told true thread None never_throttled silent_from = line.Computes thread never_throttled
thread_told _ thread greatest never_throttled silent_from = line.Thread thread greatest never_throttled silent_from

abbrev pub so_far_told : Bool → ℕ → Option ℕ → Line
so_far_told true thread None = line.Computes thread false
so_far_told _ thread greatest = line.ThreadSoFar thread greatest

-- the line of a thread's finding at the horizon, and that of a notification's
abbrev pub end_told : ℕ → ℕ → Option Finding → Option Line
end_told horizon thread (Some (finding.Overdue x number age deadline activated queued stood)) = Some (line.Overdue thread horizon)
end_told horizon thread (Some (finding.Never x deadline)) = Some (line.Never thread horizon)
end_told horizon thread _ = None

abbrev pub untaken_told : ℕ → ℕ → Option Finding → Option Line
untaken_told horizon note (Some (finding.Untaken x word age deadline set)) = Some (line.Untaken note horizon)
untaken_told horizon note _ = None

-- the line of a thread that is never activated, by its finding at the end of the first period
abbrev pub inactive_told : ℕ → Option Finding → Option Line
inactive_told thread (Some (finding.Never x deadline)) = Some (line.Inactive thread)
inactive_told thread _ = None

-- the line of a thread's round that never ends; if there is none, that of a thread that is never
-- activated
abbrev pub ever_told : ℕ → Option Finding → Option Finding → Option Line
ever_told thread (Some (finding.Overdue x number age deadline activated queued stood)) unended = Some (line.Endless thread number activated)
ever_told thread _ unended = inactive_told thread unended

-- the line of a notification's word that nobody ever takes
abbrev pub abandoned_told : ℕ → Option Finding → Option Line
abandoned_told note (Some (finding.Untaken x word age deadline set)) = Some (line.Abandoned note word set)
abandoned_told note _ = None

module _ (system : System) where
  -- a line for each thread of the system, if there is one, and for each notification
  abbrev pub of_threads : (ℕ → Option Line) → List Line
  of_threads tell = filter_map tell (range_with_len 0 (length system.threads))

  abbrev pub of_notes : (ℕ → Option Line) → List Line
  of_notes tell = filter_map tell (range_with_len 0 (length system.notes))

module _ (system : System) (own : List Bool) where
  -- whether a thread and a notification are on one of these cores
  abbrev pub is_own_thread : ℕ → Bool
  is_own_thread thread = has own (core_of system (thread_part system thread))

  abbrev pub is_own_note : ℕ → Bool
  is_own_note note = has own (note_part system note).core

  -- the counts of the rows before the first period and up to its end; or both so far
  module _ (forever : Bool) (before after : Course) where
    abbrev pub misses_of : ℕ → Often
    misses_of thread = often_of forever (get_or before.misses thread 0) (get_or after.misses thread 0)

    abbrev pub losses_of : ℕ → Often
    losses_of note = often_of forever (get_or before.losses note 0) (get_or after.losses note 0)

    -- the rounds of the thread that missed their deadline
    abbrev pub miss_line : ℕ → Option Line
    miss_line thread =
        if is_own_thread thread && is_some (misses_of thread) then Some (line.Miss thread (misses_of thread)) else None

    -- the signals that the notification lost, unless it may lose signals
    abbrev pub lost_line : List Bool → ℕ → Option Line
    lost_line allowed note =
        if is_own_note note && (not (has allowed note) && is_some (losses_of note)) then Some (line.Lost note (losses_of note)) else None

    abbrev pub count_lines : List Bool → List Line
    count_lines allowed = of_threads system miss_line ++ of_notes system (lost_line allowed)

  abbrev pub end_line : ℕ → (ℕ → Option Finding) → ℕ → Option Line
  end_line horizon unended thread = if is_own_thread thread then end_told horizon thread (unended thread) else None

  abbrev pub untaken_line : ℕ → (ℕ → Option Finding) → ℕ → Option Line
  untaken_line horizon untaken note = if is_own_note note then untaken_told horizon note (untaken note) else None

  -- the findings at the horizon, by thread and by notification
  abbrev pub end_lines : ℕ → (ℕ → Option Finding) → (ℕ → Option Finding) → List Line
  end_lines horizon unended untaken = of_threads system (end_line horizon unended) ++ of_notes system (untaken_line horizon untaken)

  abbrev pub ever_line : (ℕ → Option Finding) → (ℕ → Option Finding) → ℕ → Option Line
  ever_line endless unended thread = if is_own_thread thread then ever_told thread (endless thread) (unended thread) else None

  abbrev pub abandoned_line : (ℕ → Option Finding) → ℕ → Option Line
  abandoned_line abandoned note = if is_own_note note then abandoned_told note (abandoned note) else None

  -- the findings that go on for ever, by thread and by notification
  abbrev pub ever_lines : (ℕ → Option Finding) → (ℕ → Option Finding) → (ℕ → Option Finding) → List Line
  ever_lines endless unended abandoned =
      of_threads system (ever_line endless unended) ++ of_notes system (abandoned_line abandoned)

  -- the maximum response of the thread, whether it never exhausted its budget, and the time from
  -- which on it ends no round
  abbrev pub thread_line : Course → ℕ → List Bool → ℕ → Option Line
  thread_line course from ended thread =
      if is_own_thread thread
      then Some (thread_told (spins (thread_part system thread).script) thread (get_or course.greatest thread None) (not (get_or course.spent thread false))
      (silent_from from (get_or ended thread false)))
      else None

  abbrev pub thread_lines : Course → ℕ → List Bool → List Line
  thread_lines course from ended = of_threads system (thread_line course from ended)

  abbrev pub thread_so_far : Course → ℕ → Option Line
  thread_so_far course thread =
      if is_own_thread thread
      then Some (so_far_told (spins (thread_part system thread).script) thread (get_or course.greatest thread None))
      else None

  abbrev pub threads_so_far : Course → List Line
  threads_so_far course = of_threads system (thread_so_far course)

-- the line `nothing is ever found`, if there are no lines of findings
abbrev pub clean_lines : List Bool → List Line → List Line
clean_lines set [] = line.Clean set ∷ []
clean_lines set (l ∷ lines) = []
