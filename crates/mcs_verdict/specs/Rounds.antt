-- When a thread's round under way began and was activated, by the rows so far, the latest first.
use Rattle.std.specs.Prelude.{ℕ, Bool, List, [], ◌∷◌, ◌==◌, ◌&&◌, if◌then◌else◌, Option, Some, None}
use Rattle.mcs_ticks.specs.declared.row.Row.{Row}
use Rattle.mcs_ticks.specs.declared.row.What.{What}
use Rattle.mcs_ticks.specs.declared.row.What.TheVariants as row
use Rattle.mcs_ticks.specs.declared.row.Why.TheVariants as why
use Rattle.mcs_system.specs.System.{System, thread_part}
use Rattle.mcs_verdict.specs.Activation.{first_active}
use Rattle.mcs_verdict.specs.Calls.{calls, bits_of}
use Rattle.mcs_verdict.specs.declared.held.Held.{Held}
use Rattle.mcs_verdict.specs.Words.{waits_for, held_of, firsts_of}
pub use Rattle.mcs_verdict.specs.Calls.{waited_on, first_wait}

-- a round begins when the one before it ends or the thread starts, unless the script begins with a
-- wait
abbrev pub begun_at : Option ℕ → ℕ → Option ℕ
begun_at (Some note) moment = None
begun_at None moment = Some moment

-- whether a word begins a round if none is under way: the script begins with a wait for it, and it
-- leaves something to do
abbrev pub begins_round : Option ℕ → Option ℕ → ℕ → ℕ → Bool
begins_round waits bits note word = waits_for note waits && calls bits word

abbrev pub begun_by_word : Option ℕ → Option ℕ → ℕ → ℕ → ℕ → Option ℕ → Option ℕ
begun_by_word waits bits note word moment None = if begins_round waits bits note word then Some moment else None
begun_by_word waits bits note word moment begun = begun

-- the beginning of the round under way, after this row
abbrev pub begun_after : Option ℕ → Option ℕ → ℕ → ℕ → What → Option ℕ → Option ℕ
begun_after waits bits thread moment (row.Round x number response) begun = if x == thread then begun_at waits moment else begun
begun_after waits bits thread moment (row.Got x note word) begun = if x == thread then begun_by_word waits bits note word moment begun else begun
begun_after waits bits thread moment (row.Wake x note word until) begun = if x == thread then begun_by_word waits bits note word moment begun else begun
begun_after waits bits thread moment (row.Stop x why.Done charged until) begun = if x == thread then None else begun
begun_after waits bits thread moment _ begun = begun

-- when the thread's round under way began, if there is one
abbrev pub begun : Option ℕ → Option ℕ → ℕ → ℕ → List Row → Option ℕ
begun waits bits start thread [] = begun_at waits start
begun waits bits start thread (r ∷ past) = begun_after waits bits thread r.moment r.what (begun waits bits start thread past)

abbrev pub begun_of : System → ℕ → List Row → Option ℕ
begun_of system thread past =
    let part = thread_part system thread in
    begun (first_wait part) (bits_of part) part.start thread past

-- a round that a word begins is activated at this time
abbrev pub called_by : Option ℕ → Option ℕ → ℕ → ℕ → ℕ → Option ℕ → Option ℕ → Option ℕ
called_by waits bits note word moment None before = if begins_round waits bits note word then Some moment else before
called_by waits bits note word moment begun before = before

-- a held word was set before it was taken; a wake has the time of its signal
abbrev pub called_after : List Held → Option ℕ → Option ℕ → ℕ → List Row → ℕ → What → Option ℕ → Option ℕ → Option ℕ
called_after firsts waits bits thread past moment (row.Got x note word) begun before =
    if x == thread then called_by waits bits note word (held_of firsts note past).since begun before else before
called_after firsts waits bits thread past moment (row.Wake x note word until) begun before =
    if x == thread then called_by waits bits note word moment begun before else before
called_after firsts waits bits thread past moment _ begun before = before

-- when the latest round that a word began was activated, if there was one
abbrev pub called : List Held → Option ℕ → Option ℕ → ℕ → ℕ → List Row → Option ℕ
called firsts waits bits start thread [] = None
called firsts waits bits start thread (r ∷ past) =
    called_after firsts waits bits thread past r.moment r.what (begun waits bits start thread past)
    (called firsts waits bits start thread past)

abbrev pub called_of : System → ℕ → List Row → Option ℕ
called_of system thread past =
    let part = thread_part system thread in
    called (firsts_of system) (first_wait part) (bits_of part) part.start thread past

-- a round is activated by its word if the script begins with a wait, else when the thread is first
-- ready or running
abbrev pub activated_by : Option ℕ → Option ℕ → Option ℕ → Option ℕ
activated_by (Some note) called active = called
activated_by None called active = active

-- when a round that began at `begun` was activated, if that was before `moment`
abbrev pub activated : System → ℕ → List Row → ℕ → ℕ → Option ℕ
activated system thread past begun moment =
    activated_by (first_wait (thread_part system thread)) (called_of system thread past) (first_active thread past begun moment)

-- when the round under way was activated, if one is under way and that was before `moment`
abbrev pub activated_in : System → ℕ → List Row → ℕ → Option ℕ → Option ℕ
activated_in system thread past moment None = None
activated_in system thread past moment (Some begun) = activated system thread past begun moment

abbrev pub activated_of : System → ℕ → List Row → ℕ → Option ℕ
activated_of system thread past moment = activated_in system thread past moment (begun_of system thread past)

-- the number of the thread's round that ended last, 0 if none did
abbrev pub rounds_after : ℕ → What → ℕ → ℕ
rounds_after thread (row.Round x number response) before = if x == thread then number else before
rounds_after thread _ before = before

abbrev pub rounds_of : ℕ → List Row → ℕ
rounds_of thread [] = 0
rounds_of thread (r ∷ past) = rounds_after thread r.what (rounds_of thread past)
