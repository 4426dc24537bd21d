-- Facts kept of a run between two moments, and what goes on for ever after the second one.
use Rattle.std.specs.Prelude.{◌≡◌, ℕ, ◌+◌, ◌^◌, Bool, if◌then◌else◌, List, ◌++◌, map, drop, length, Option, None}
use Rattle.std.specs.List.{list_any}
use Rattle.mcs_ticks.specs.declared.row.Row.{Row}
use Rattle.mcs_ticks.specs.declared.row.What.{What}
use Rattle.mcs_system.specs.System.{System}
use Rattle.mcs_core.specs.Clock.{clock}
use Rattle.mcs_verdict.specs.declared.finding.Finding.{Finding}
use Rattle.mcs_verdict.specs.Due.{untaken}
use Rattle.mcs_verdict.specs.Misses.{overdue}
use Rattle.mcs_verdict.specs.Watch.{Watch}
use Rattle.mcs_ever.specs.laws.Repeats.{ends_round}
use Rattle.mcs_ever_found.specs.Recurs.{takes_word, past_before, watch_before}
use Rattle.mcs_ever_found.specs.Doings.{Doings, doings_of}

-- the rows without their times and cores
abbrev pub whats : List Row → List What
whats rows = map (λ (row : Row). row.what) rows

-- the watches of the rows before time `from` and before `from` + `by`, and the flags of the rows
-- between
pub record AreKept (system : System) (by from : ℕ) (before after : Watch) (doings : Doings) : Type 0 where
  pub earlier : before ≡ watch_before system from
  pub later : after ≡ watch_before system (from + by)
  pub between : List Row
  pub on : (clock system (from + by)).rows ≡ (clock system from).rows ++ between
  pub done : doings ≡ doings_of system (whats between)

-- a horizon so late that by then a round under way at the end of the first period is overdue, and a
-- word that is set at that end is untaken, if neither changes any more
abbrev pub far : ℕ
far = 2 ^ 42

module _ (system : System) (by from : ℕ) where
  -- what the rows from time `from` on and before `from` + `by`, the first period, do
  abbrev pub done_in_period : List What
  done_in_period = whats (drop (length (clock system from).rows) (clock system (from + by)).rows)

  -- whether a round of the thread ends in the first period, and whether a thread takes the word of
  -- the notification
  abbrev pub ends_in_period : ℕ → Bool
  ends_in_period thread = list_any (ends_round thread) done_in_period

  abbrev pub is_taken_in_period : ℕ → Bool
  is_taken_in_period note = list_any (takes_word note) done_in_period

  -- the overdue round of a thread that never ends: no round of the thread ends in the first period,
  -- and one is under way at its end
  abbrev pub endless_round : ℕ → Option Finding
  endless_round thread = if ends_in_period thread then None else overdue system (past_before system (from + by)) far thread

  -- the untaken word of a notification that nobody ever takes: nobody takes it in the first period,
  -- and it is set at its end
  abbrev pub abandoned_word : ℕ → Option Finding
  abandoned_word note = if is_taken_in_period note then None else untaken system (past_before system (from + by)) far note
