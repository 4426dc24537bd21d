-- A group of cores recurs in its findings, too: the watch of its threads and words is that of some
-- ticks earlier, but later.
use Rattle.std.specs.Prelude.{◌≡◌, ℕ, ◌+◌, ◌^◌, ◌<◌, ◌≤◌, ◌⊎◌, Bool, true, false, ◌==◌, ◌&&◌, nat_le, List, [], length, get_or}
use Rattle.std.specs.List.{AllByRecursion}
use Rattle.mcs_ticks.specs.declared.row.Row.{Row}
use Rattle.mcs_ticks.specs.declared.row.What.{What}
use Rattle.mcs_ticks.specs.declared.row.What.TheVariants as row
use Rattle.mcs_system.specs.System.{System, thread_part, note_part, core_of, is_server}
use Rattle.mcs_core.specs.Clock.{clock, schedule}
use Rattle.mcs_verdict.specs.declared.account.Account.{Account}
use Rattle.mcs_verdict.specs.declared.held.Held.{Held}
use Rattle.mcs_verdict.specs.Findings.{past_of}
use Rattle.mcs_verdict.specs.Watch.{Watch, watch_of}
use Rattle.mcs_verdict.specs.Later.{IsLaterAccount}
use Rattle.mcs_ever.specs.Recurs.{Shifts, Recurs}
use Rattle.mcs_ever.specs.laws.Repeats.{EndsNoRound}

-- whether a thread takes the word of the notification
abbrev pub takes_word : ℕ → What → Bool
takes_word note (row.Got thread x word) = x == note
takes_word note _ = false

-- no thread takes its word from that time on up to the horizon
abbrev pub TakesNoWord : System → ℕ → ℕ → ℕ → Type 0
TakesNoWord system note from horizon =
    AllByRecursion (λ (row : Row). (nat_le from row.moment && takes_word note row.what) ≡ false) (schedule system horizon)

-- the rows of the turns before time t, the latest first, and their watch
abbrev pub past_before : System → ℕ → List Row
past_before system t = past_of [] (clock system t).rows

abbrev pub watch_before : System → ℕ → Watch
watch_before system t = watch_of system (past_before system t)

module _ (system : System) (by from : ℕ) where
  -- the account of the thread before `from` + `by` is that before `from`, but later
  abbrev pub ThreadIsLater : ℕ → Type 0
  ThreadIsLater thread =
      (d : Account) →
      IsLaterAccount by (get_or (watch_before system from).accounts thread d) (get_or (watch_before system (from + by)).accounts thread d)

  -- the notification has the same word; the word was set later
  abbrev pub WordIsSame : ℕ → Type 0
  WordIsSame note =
      (d : Held) → (get_or (watch_before system (from + by)).words note d).word ≡ (get_or (watch_before system from).words note d).word

  abbrev pub WordIsLater : ℕ → Type 0
  WordIsLater note =
      (d : Held) → (get_or (watch_before system (from + by)).words note d).since ≡ (get_or (watch_before system from).words note d).since + by

-- the group recurs; each of its threads has started, and each that ends a round is later; each of
-- its words is the same, and each word that is taken was set later, but for servers, whose words
-- begin no round; the first period ends early enough for the horizon at which what goes on for ever
-- is asked for (`far`)
pub record FindingsRecur (system : System) (group : ℕ → Bool) (shifts : Shifts) (from : ℕ) : Type 0 where
  pub recurs : Recurs system group shifts from
  pub near : from + shifts.by ≤ 2 ^ 41
  pub started : (thread : ℕ) → thread < length system.threads → group (core_of system (thread_part system thread)) ≡ true →
      (thread_part system thread).start ≤ from
  pub threads : (thread : ℕ) → thread < length system.threads → group (core_of system (thread_part system thread)) ≡ true →
      ThreadIsLater system shifts.by from thread ⊎ EndsNoRound system thread from (from + shifts.by)
  pub words : (note : ℕ) → note < length system.notes → group (note_part system note).core ≡ true →
      WordIsSame system shifts.by from note
  pub taken : (note : ℕ) → note < length system.notes → group (note_part system note).core ≡ true →
      WordIsLater system shifts.by from note ⊎ (TakesNoWord system note from (from + shifts.by) ⊎ (is_server system note ≡ true))
