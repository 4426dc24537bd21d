-- The dates of each thread that rows show to have been compared with now: those of its context, and
-- the beginning of its round.
use Rattle.std.specs.Prelude.{◌≡◌, ℕ, Bool, true, false, ◌||◌, ◌==◌, if◌then◌else◌, List, length, map, get_or, Option, Some, None}
use Rattle.std.specs.List.{list_any, range_with_len}
use Rattle.mcs_control.specs.declared.config.Mode.{Mode}
use Rattle.mcs_control.specs.declared.config.Mode.TheVariants.{Sporadic, Bandwidth}
use Rattle.mcs_ticks.specs.declared.row.What.{What}
use Rattle.mcs_ticks.specs.declared.row.What.TheVariants as row
use Rattle.mcs_system.specs.System.{System, thread_part, context_part}
use Rattle.mcs_ever.specs.declared.marks.Mark.{Mark}
use Rattle.mcs_ever.specs.Later.{Shift, ContextKeepsUp, RoundKeepsUp}
use Rattle.mcs_ever.specs.laws.Home.{IsOwnThread}

abbrev pub no_mark : Mark
no_mark = record { context = false; round = false }

-- both marks together
abbrev pub joined : Mark → Mark → Mark
joined a b = record { context = a.context || b.context; round = a.round || b.round }

abbrev pub is_bandwidth : Mode → Bool
is_bandwidth Sporadic = false
is_bandwidth Bandwidth = true

-- the mark, if it is this thread's
abbrev pub of_thread : ℕ → Option (ℕ × Mark) → Mark
of_thread thread None = no_mark
of_thread thread (Some pair) = if pair.0 == thread then pair.1 else no_mark

module _ (system : System) where
  -- the mode of the thread's context in the file
  abbrev pub mode_of : ℕ → Mode
  mode_of thread = (context_part system (thread_part system thread).context).mode

  -- the thread whose dates a row shows to have been compared with now, and which of them: a choice
  -- compares only the dates of a context in bandwidth mode, and a stop only those of a thread that
  -- has to wait for its budget
  abbrev pub compared : What → Option (ℕ × Mark)
  compared (row.Wake thread note word until) = Some (thread, record { context = true; round = true })
  compared (row.Run thread) = Some (thread, record { context = is_bandwidth (mode_of thread); round = false })
  compared (row.Stop thread why charged (Some until)) = Some (thread, record { context = true; round = false })
  compared (row.Stop thread why charged None) = None
  compared (row.Round thread number response) = Some (thread, record { context = false; round = true })
  compared (row.Got thread note word) = Some (thread, record { context = false; round = true })
  compared (row.Release thread) = None
  compared (row.Signal thread note badge) = None
  compared (row.Arrive note badge maker) = None
  compared (row.Hold note word) = None
  compared (row.Order context) = None
  compared (row.Interrupt source note badge) = None

  -- the mark of the thread by a row
  abbrev pub mark_by : ℕ → What → Mark
  mark_by thread what = of_thread thread (compared what)

  -- the mark of the thread by any of the rows
  abbrev pub mark_of : ℕ → List What → Mark
  mark_of thread rows =
      record {
        context = list_any (λ what. (mark_by thread what).context) rows;
        round = list_any (λ what. (mark_by thread what).round) rows;
      }

  -- the marks of all threads by the rows
  abbrev pub marks_of : List What → List Mark
  marks_of rows = map (λ thread. mark_of thread rows) (range_with_len 0 (length system.threads))

  -- on this core no marked date has lagged
  pub record MarkedKeepUp (core : ℕ) (shift : Shift) (marks : List Mark) : Type 0 where
    pub contexts : (thread : ℕ) → IsOwnThread system core thread → (get_or marks thread no_mark).context ≡ true →
        ContextKeepsUp system shift thread
    pub rounds : (thread : ℕ) → IsOwnThread system core thread → (get_or marks thread no_mark).round ≡ true →
        RoundKeepsUp system shift thread
