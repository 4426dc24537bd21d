-- Deadline misses, rounds that can only end with one, and threads that were never activated.
use Rattle.std.specs.Prelude.{ℕ, ◌+◌, ◌-◌, Bool, ◌==◌, ◌&&◌, ◌||◌, not, nat_lt, nat_le, if◌then◌else◌, List, Option, Some, None}
use Rattle.mcs_ticks.specs.Capped.{one_more}
use Rattle.mcs_ticks.specs.declared.row.Row.{Row}
use Rattle.mcs_system.specs.System.{System, thread_part}
use Rattle.mcs_verdict.specs.declared.finding.Finding.{Finding}
use Rattle.mcs_verdict.specs.declared.finding.Finding.TheVariants.{Miss, Overdue, Never}
use Rattle.mcs_verdict.specs.declared.held.Held.{Held}
use Rattle.mcs_verdict.specs.declared.job.Job.{Job}
use Rattle.mcs_verdict.specs.declared.standing.Standing.{Standing}
use Rattle.mcs_verdict.specs.declared.standing.Stood.{Stood}
use Rattle.mcs_verdict.specs.Standing.{standing_at, telling}
use Rattle.mcs_verdict.specs.Stood.{stood_in}
use Rattle.mcs_verdict.specs.Calls.{is_set, bits_of}
use Rattle.mcs_verdict.specs.Activation.{is_active}
use Rattle.mcs_verdict.specs.Rounds.{first_wait, activated_of, rounds_of}
use Rattle.mcs_verdict.specs.Parts.{free_of, queued_in, parts_in}
use Rattle.mcs_verdict.specs.Jobs.{job}
use Rattle.mcs_verdict.specs.Words.{firsts_of}
pub use Rattle.mcs_verdict.specs.Words.{word_for}

-- a deadline of 0 means that there is none
abbrev pub is_above : ℕ → ℕ → Bool
is_above deadline ticks = not (deadline == 0) && nat_lt deadline ticks

abbrev pub is_reached : ℕ → ℕ → Bool
is_reached deadline ticks = not (deadline == 0) && nat_le deadline ticks

-- a round that ended missed its deadline if its response from its activation is above it
abbrev pub missed : ℕ → Job → Option Finding
missed deadline job =
    if is_above deadline job.response
    then Some (Miss job.thread job.number job.response deadline job.activated job.queued job.stood)
    else None

abbrev pub miss : System → List Row → ℕ → ℕ → ℕ → Option Finding
miss system past moment thread number = missed (thread_part system thread).deadline (job system past moment thread number)

-- a round that is under way at the horizon can only miss its deadline if it was activated at least a
-- deadline before
abbrev pub overdue_at : ℕ → ℕ → ℕ → ℕ → ℕ → ℕ → Stood → Option Finding
overdue_at horizon thread number deadline free activated stood =
    if is_reached deadline (horizon - activated)
    then Some (Overdue thread number (horizon - activated) deadline activated (queued_in free activated) stood)
    else None

-- when a held word was set, if it leaves something to do
abbrev pub set_at : Option ℕ → Held → Option ℕ
set_at bits held = if is_set bits held.word then Some held.since else None

abbrev pub first_word : System → ℕ → List Row → Held
first_word system thread past = word_for (firsts_of system) (first_wait (thread_part system thread)) past

-- when that word was set, if it leaves the thread something to do
abbrev pub word_set : System → List Row → ℕ → Option ℕ
word_set system past thread = set_at (bits_of (thread_part system thread)) (first_word system thread past)

-- the overdue round that was activated then, if one was
abbrev pub overdue_since : System → List Row → ℕ → ℕ → Option ℕ → Option Finding
overdue_since system past horizon thread None = None
overdue_since system past horizon thread (Some activated) =
    let free = free_of system thread past in
    overdue_at horizon thread (one_more (rounds_of thread past)) (thread_part system thread).deadline free activated
    (parts_in thread past free activated horizon)

-- an overdue round, which is under way
abbrev pub overdue : System → List Row → ℕ → ℕ → Option Finding
overdue system past horizon thread = overdue_since system past horizon thread (activated_of system thread past horizon)

-- whether a thread ever had something to do: if the script begins with a wait, some thread was given
-- a word that leaves this one something to do; else it was ready or running
abbrev pub was_activated : Option ℕ → Option ℕ → Held → Standing → Stood → Bool
was_activated (Some note) bits held standing stood = is_set bits held.given
was_activated None bits held standing stood = is_active standing || not (stood.ready + stood.running == 0)

-- a thread with a deadline that was never activated up to the horizon
abbrev pub never_at : ℕ → ℕ → Bool → Option Finding
never_at thread deadline once = if not (deadline == 0) && not once then Some (Never thread deadline) else None

abbrev pub never : System → List Row → ℕ → ℕ → Option Finding
never system past horizon thread =
    never_at thread (thread_part system thread).deadline
    (was_activated (first_wait (thread_part system thread)) (bits_of (thread_part system thread)) (first_word system thread past)
    (standing_at horizon (telling thread past)) (stood_in thread past 0 horizon))

abbrev pub first_of : Option Finding → Option Finding → Option Finding
first_of (Some found) other = Some found
first_of None other = other

-- the finding of a thread at the horizon
abbrev pub unended : System → List Row → ℕ → ℕ → Option Finding
unended system past horizon thread = first_of (overdue system past horizon thread) (never system past horizon thread)
