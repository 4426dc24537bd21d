-- Rows name only the core's own threads and notifications.
use Rattle.std.specs.Prelude.{◌≡◌, ℕ, ◌<◌, length}
use Rattle.std.specs.List.{AllByRecursion}
use Rattle.mcs_ticks.specs.declared.row.What.{What}
use Rattle.mcs_ticks.specs.declared.row.What.TheVariants as row
use Rattle.mcs_system.specs.System.{System, thread_part, note_part, core_of}
use Rattle.mcs_system.specs.WellFormed.{IsWellFormed}
use Rattle.mcs_core.specs.Clock.{turn_of}

module _ (system : System) (core : ℕ) where
  -- a thread of the system, on this core
  pub record IsOwnThread (thread : ℕ) : Type 0 where
    pub known : thread < length system.threads
    pub home : core_of system (thread_part system thread) ≡ core

  -- a notification of the system, on this core
  pub record IsOwnNote (note : ℕ) : Type 0 where
    pub known : note < length system.notes
    pub home : (note_part system note).core ≡ core

  -- the thread that a row names is one of the core's, and so is the notification whose word it has;
  -- that of a signal may be anywhere
  abbrev pub IsOfOwn : What → Type 0
  IsOfOwn (row.Stop thread why charged until) = IsOwnThread thread
  IsOfOwn (row.Round thread number response) = IsOwnThread thread
  IsOfOwn (row.Release thread) = IsOwnThread thread
  IsOfOwn (row.Run thread) = IsOwnThread thread
  IsOfOwn (row.Signal thread note badge) = IsOwnThread thread
  IsOfOwn (row.Arrive note badge maker) = IsOwnNote note
  IsOfOwn (row.Wake thread note word until) = IsOwnThread thread × IsOwnNote note
  IsOfOwn (row.Hold note word) = IsOwnNote note
  IsOfOwn (row.Got thread note word) = IsOwnThread thread × IsOwnNote note
  IsOfOwn (row.Order context) = Unit {0}
  IsOfOwn (row.Interrupt source note badge) = IsOwnNote note

abbrev pub RowsAreOfOwn : Type 0
RowsAreOfOwn =
    (system : System) → IsWellFormed system → (c t : ℕ) → c < system.cores →
    AllByRecursion (IsOfOwn system c) (turn_of system c t).rows
