-- Watching the rows of each core separately.
use Rattle.std.specs.Prelude.{◌≡◌, ℕ, ◌==◌, List, [], ◌∷◌, filter, Option, Some, None}
use Rattle.mcs_ticks.specs.declared.row.Row.{Row}
use Rattle.mcs_ticks.specs.declared.row.What.{What}
use Rattle.mcs_ticks.specs.declared.row.What.TheVariants as row
use Rattle.mcs_system.specs.System.{System, core_of, note_part, thread_part}
use Rattle.mcs_verdict.specs.declared.finding.Found.{Found}
use Rattle.mcs_verdict.specs.Account.{subject}
use Rattle.mcs_verdict.specs.Rounds.{first_wait}
use Rattle.mcs_verdict.specs.Misses.{unended}
use Rattle.mcs_verdict.specs.Due.{untaken}
use Rattle.mcs_verdict.specs.Findings.{UpTo, past_of, found_in}

-- the rows of core c
abbrev pub rows_on : ℕ → List Row → List Row
rows_on c rows = filter (λ (r : Row). r.core == c) rows

-- the findings at rows of core c
abbrev pub found_on : ℕ → List Found → List Found
found_on c found = filter (λ (f : Found). f.core == c) found

-- the notification whose word a row changes
abbrev pub word_told : What → Option ℕ
word_told (row.Hold note word) = Some note
word_told (row.Got thread note word) = Some note
word_told (row.Wake thread note word until) = Some note
word_told _ = None

module _ (system : System) where
  -- the core of a thread, and of a notification
  abbrev pub home_of : ℕ → ℕ
  home_of thread = core_of system (thread_part system thread)

  abbrev pub note_home_of : ℕ → ℕ
  note_home_of note = (note_part system note).core

  -- the row is on the core of its thread and of the notification whose word it changes
  pub record IsAtHome (r : Row) : Type 0 where
    pub thread : (x : ℕ) → subject r.what ≡ Some x → home_of x ≡ r.core
    pub note : (n : ℕ) → word_told r.what ≡ Some n → note_home_of n ≡ r.core

  -- rows at home in the order of their times, after the rows `past`
  abbrev pub ComeHome : List Row → List Row → Type 0
  ComeHome past [] = Unit {0}
  ComeHome past (r ∷ rows) = IsAtHome r × UpTo r.moment past × ComeHome (r ∷ past) rows

  -- the script does not begin with a wait for a notification of another core
  abbrev pub WaitsAtHome : ℕ → Type 0
  WaitsAtHome thread = (note : ℕ) → first_wait (thread_part system thread) ≡ Some note → note_home_of note ≡ home_of thread

  -- the findings in the rows of one core alone are the findings at these rows among all
  abbrev pub FoundByCore : Type 0
  FoundByCore = (rows : List Row) (c : ℕ) → ComeHome [] rows → found_in system [] (rows_on c rows) ≡ found_on c (found_in system [] rows)

  -- the findings at the horizon are the same for each thread that waits at home
  abbrev pub UnendedByCore : Type 0
  UnendedByCore =
      (rows : List Row) (horizon thread : ℕ) → ComeHome [] rows → UpTo horizon (past_of [] rows) → WaitsAtHome thread
      → unended system (past_of [] (rows_on (home_of thread) rows)) horizon thread ≡ unended system (past_of [] rows) horizon thread

  -- and for each word
  abbrev pub UntakenByCore : Type 0
  UntakenByCore =
      (rows : List Row) (horizon note : ℕ) → ComeHome [] rows → UpTo horizon (past_of [] rows)
      → untaken system (past_of [] (rows_on (note_home_of note) rows)) horizon note ≡ untaken system (past_of [] rows) horizon note

-- these hold in every system
abbrev pub CoresAreWatched : Type 0
CoresAreWatched = (system : System) → FoundByCore system × UnendedByCore system × UntakenByCore system
