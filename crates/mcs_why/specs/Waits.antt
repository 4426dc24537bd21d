-- When a thread began to wait for the word that began its round, by the rows so far, the latest
-- first.
use Rattle.std.specs.Prelude.{ℕ, List, [], ◌∷◌, ◌==◌, if◌then◌else◌, Option, Some, None}
use Rattle.mcs_ticks.specs.declared.row.Row.{Row}
use Rattle.mcs_ticks.specs.declared.row.What.{What}
use Rattle.mcs_ticks.specs.declared.row.What.TheVariants as row
use Rattle.mcs_system.specs.System.{System, thread_part}
use Rattle.mcs_verdict.specs.Calls.{first_wait, bits_of}
use Rattle.mcs_verdict.specs.Rounds.{begun, begins_round}

-- when the thread stopped last
abbrev pub stopped_after : ℕ → ℕ → What → Option ℕ → Option ℕ
stopped_after thread moment (row.Stop x cause charged until) before = if x == thread then Some moment else before
stopped_after thread moment _ before = before

abbrev pub stopped : ℕ → List Row → Option ℕ
stopped thread [] = None
stopped thread (r ∷ past) = stopped_after thread r.moment r.what (stopped thread past)

-- if this word begins a round, when the thread began to wait for it
abbrev pub waited_by : Option ℕ → Option ℕ → ℕ → ℕ → Option ℕ → Option ℕ → Option ℕ → Option ℕ
waited_by waits bits note word None since before = if begins_round waits bits note word then since else before
waited_by waits bits note word (Some begun) since before = before

-- a thread that is woken waited since it stopped; one that takes a held word did not wait
abbrev pub waited_after : Option ℕ → Option ℕ → ℕ → Option ℕ → Option ℕ → What → Option ℕ → Option ℕ
waited_after waits bits thread begun stopped (row.Wake x note word until) before =
    if x == thread then waited_by waits bits note word begun stopped before else before
waited_after waits bits thread begun stopped (row.Got x note word) before =
    if x == thread then waited_by waits bits note word begun None before else before
waited_after waits bits thread begun stopped _ before = before

-- when the thread began to wait for the word that began its latest round, if it waited
abbrev pub waited : Option ℕ → Option ℕ → ℕ → ℕ → List Row → Option ℕ
waited waits bits start thread [] = None
waited waits bits start thread (r ∷ past) =
    waited_after waits bits thread (begun waits bits start thread past) (stopped thread past) r.what (waited waits bits start thread past)

abbrev pub waited_of : System → ℕ → List Row → Option ℕ
waited_of system thread past =
    let part = thread_part system thread in
    waited (first_wait part) (bits_of part) part.start thread past
