-- The shifts of a group of cores, in numbers that a program keeps.
use Rattle.std.specs.Prelude.{◌≡◌, ℕ, ◌<◌, Bool, true, List, [], length, get_or, Option, Some, None}
use Rattle.mcs_system.specs.System.{System, thread_part, core_of}
use Rattle.mcs_core.specs.Core.{Core}
use Rattle.mcs_ever.specs.Later.{Shift, later_core, IsShift, ContextKeepsUp, RoundKeepsUp}
use Rattle.mcs_ever.specs.Recurs.{Shifts}
use Rattle.mcs_ever.specs.Closed.{has}
use Rattle.mcs_ever.specs.declared.marks.Mark.{Mark}
use Rattle.mcs_ever_again.specs.declared.image.lags.Lags.{Lags}
use Rattle.mcs_ever_again.specs.Lags.{shift_by}

-- past the end of its lists each context and each round is as late as the core
abbrev pub no_lags : Lags
no_lags = record { contexts = []; threads = []; rounds = [] }

abbrev pub lags_or_none : Option Lags → Lags
lags_or_none (Some lags) = lags
lags_or_none None = no_lags

-- the lags of a core; no lags if the list has none
abbrev pub lags_of : List (Option Lags) → ℕ → Lags
lags_of lags core = lags_or_none (get_or lags core None)

-- the shift of a core that is `by` ticks later
abbrev pub shift_told : ℕ → List (Option Lags) → ℕ → Shift
shift_told by lags core = shift_by by (lags_of lags core)

-- the shifts of all cores
abbrev pub shifts_told : ℕ → List (Option Lags) → Shifts
shifts_told by lags =
    record {
      by = by;
      contexts = λ core. (shift_told by lags core).contexts;
      threads = λ core. (shift_told by lags core).threads;
      rounds = λ core. (shift_told by lags core).rounds;
    }

-- these lags are a shift of the core; and the later core is the earlier one by that shift, if it is
-- in the group
pub record IsAgain (system : System) (by : ℕ) (own : Bool) (before after : Core) (lags : Lags) : Type 0 where
  pub shift : IsShift system (shift_by by lags)
  pub again : own ≡ true → after ≡ later_core (shift_by by lags) before

-- this holds for each of the first n cores
abbrev pub AreAgain : System → ℕ → List Bool → List Core → List Core → List (Option Lags) → ℕ → Type 0
AreAgain system by group before after lags n =
    (past : Core) (core : ℕ) → core < n →
    IsAgain system by (has group core) (get_or before core past) (get_or after core past) (lags_of lags core)

-- this holds for each core
pub record GroupIsAgain (system : System) (by : ℕ) (group : List Bool) (before after : List Core) (lags : List (Option Lags)) : Type 0 where
  pub many : length lags ≡ length before
  pub same : length after ≡ length before
  pub each : AreAgain system by group before after lags (length before)

-- the marked dates of the thread are later by the whole period
pub record ThreadKeepsUp (system : System) (shift : Shift) (mark : Mark) (thread : ℕ) : Type 0 where
  pub context : mark.context ≡ true → ContextKeepsUp system shift thread
  pub round : mark.round ≡ true → RoundKeepsUp system shift thread

-- this holds for a thread on a core of the group
abbrev pub OwnKeepsUp : System → ℕ → List Bool → List (Option Lags) → Mark → ℕ → Type 0
OwnKeepsUp system by group lags mark thread =
    (core : ℕ) → core_of system (thread_part system thread) ≡ core → has group core ≡ true →
    ThreadKeepsUp system (shift_told by lags core) mark thread
