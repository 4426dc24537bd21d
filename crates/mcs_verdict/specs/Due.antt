-- Words that nobody has taken for so long that whoever takes one misses its deadline.
use Rattle.std.specs.Prelude.{ℕ, ◌-◌, Bool, ◌==◌, ◌&&◌, ◌||◌, not, nat_le, if◌then◌else◌, List, Option, Some, None}
use Rattle.std.specs.List.{list_all}
use Rattle.mcs_ticks.specs.declared.row.Row.{Row}
use Rattle.mcs_system.specs.declared.part.ThreadPart.{ThreadPart}
use Rattle.mcs_system.specs.System.{System}
use Rattle.mcs_verdict.specs.declared.finding.Finding.{Finding}
use Rattle.mcs_verdict.specs.declared.finding.Finding.TheVariants.{Untaken}
use Rattle.mcs_verdict.specs.declared.held.Held.{Held}
use Rattle.mcs_verdict.specs.Calls.{first_wait, calls, bits_of}
use Rattle.mcs_verdict.specs.Takers.{waits_for}
use Rattle.mcs_verdict.specs.Words.{held_of, firsts_of}

-- whether a word leaves something to do to each thread that waits first for the notification
abbrev pub calls_each : ℕ → ℕ → List ThreadPart → Bool
calls_each note word threads = list_all (λ part. not (waits_for note (first_wait part)) || calls (bits_of part) word) threads

-- a word that was set so many ticks ago, if that is the deadline of its notification or more
abbrev pub untaken_by : ℕ → ℕ → Held → Option ℕ → Bool → Option Finding
untaken_by horizon note held None called = None
untaken_by horizon note held (Some due) called =
    if not (held.word == 0) && called && nat_le due (horizon - held.since)
    then Some (Untaken note held.word (horizon - held.since) due held.since)
    else None

-- the word that the notification holds at the horizon, if whoever takes it misses its deadline
abbrev pub untaken : System → List Row → ℕ → ℕ → Option Finding
untaken system past horizon note =
    let held = held_of (firsts_of system) note past in
    untaken_by horizon note held held.due (calls_each note held.word system.threads)
