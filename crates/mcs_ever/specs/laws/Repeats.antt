-- If a group of cores recurs, all that it does is repeated for ever.
use Rattle.std.specs.Prelude.{◌≡◌, ℕ, ◌+◌, ◌<◌, ◌≤◌, Bool, true, false, ◌||◌, ◌&&◌, not, ◌==◌, nat_le, map}
use Rattle.std.specs.List.{AllByRecursion}
use Rattle.mcs_ticks.specs.declared.row.Row.{Row}
use Rattle.mcs_ticks.specs.declared.row.What.{What}
use Rattle.mcs_ticks.specs.declared.row.What.TheVariants as row
use Rattle.mcs_system.specs.System.{System, thread_part, core_of}
use Rattle.mcs_system.specs.WellFormed.{IsWellFormed}
use Rattle.mcs_core.specs.Clock.{turn_of, schedule}
use Rattle.mcs_ever.specs.Later.{later_what}
use Rattle.mcs_ever.specs.Recurs.{Shifts, shift_of, Recurs}

-- each turn from then on makes the rows that it made a period earlier, but later
abbrev pub TurnsRepeat : Type 0
TurnsRepeat =
    (system : System) (group : ℕ → Bool) (shifts : Shifts) (from : ℕ) → IsWellFormed system → Recurs system group shifts from →
    (t c : ℕ) → from ≤ t → c < system.cores → group c ≡ true →
    (turn_of system c (t + shifts.by)).rows ≡ map (later_what (shift_of shifts c)) (turn_of system c t).rows

-- a test of the rows of each core that does not depend on the time: a row that passes it passes it
-- later, too
abbrev pub IsTimeless : Shifts → (ℕ → What → Bool) → Type 0
IsTimeless shifts test =
    (c : ℕ) (what : What) → test c what ≡ true → test c (later_what (shift_of shifts c) what) ≡ true

-- if all rows of the group from some moment on pass such a test up to the end of the first period,
-- all pass it for ever
abbrev pub TestsAreForever : Type 0
TestsAreForever =
    (system : System) (group : ℕ → Bool) (shifts : Shifts) (from : ℕ) → IsWellFormed system → Recurs system group shifts from →
    (test : ℕ → What → Bool) → IsTimeless shifts test → (first : ℕ) → first ≤ from →
    ((t c : ℕ) → first ≤ t → t < from + shifts.by → c < system.cores → group c ≡ true →
    AllByRecursion (λ what. test c what ≡ true) (turn_of system c t).rows) →
    (t c : ℕ) → first ≤ t → c < system.cores → group c ≡ true →
    AllByRecursion (λ what. test c what ≡ true) (turn_of system c t).rows

-- whether the response of a round that ended is within the deadline of its thread, if there is one
abbrev pub is_in_time : System → What → Bool
is_in_time system (row.Round thread number response) =
    ((thread_part system thread).deadline == 0) || nat_le response (thread_part system thread).deadline
is_in_time system _ = true

-- up to the horizon no round of the group's threads ends late
abbrev pub IsNeverLate : System → (ℕ → Bool) → ℕ → Type 0
IsNeverLate system group horizon =
    AllByRecursion (λ (row : Row). (not (group row.core) || is_in_time system row.what) ≡ true) (schedule system horizon)

-- in that case no round ever ends late
abbrev pub NeverLate : Type 0
NeverLate =
    (system : System) (group : ℕ → Bool) (shifts : Shifts) (from : ℕ) → IsWellFormed system → Recurs system group shifts from →
    IsNeverLate system group (from + shifts.by) → (horizon : ℕ) → IsNeverLate system group horizon

-- whether a round of the thread ends
abbrev pub ends_round : ℕ → What → Bool
ends_round thread (row.Round x number response) = x == thread
ends_round thread _ = false

-- up to the horizon no round of the thread ends at a moment from then on
abbrev pub EndsNoRound : System → ℕ → ℕ → ℕ → Type 0
EndsNoRound system thread from horizon =
    AllByRecursion (λ (row : Row). (nat_le from row.moment && ends_round thread row.what) ≡ false) (schedule system horizon)

-- a thread of the group that ends no round over a whole period ends no round again
abbrev pub NoRoundEndsAgain : Type 0
NoRoundEndsAgain =
    (system : System) (group : ℕ → Bool) (shifts : Shifts) (from : ℕ) → IsWellFormed system → Recurs system group shifts from →
    (thread : ℕ) → group (core_of system (thread_part system thread)) ≡ true → EndsNoRound system thread from (from + shifts.by) →
    (horizon : ℕ) → EndsNoRound system thread from horizon
