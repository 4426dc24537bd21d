-- How far a thread is in its script, by the rows that its steps make.
use Rattle.std.specs.Prelude.{ℕ, ◌+◌, Bool, true, false, ◌||◌, ◌&&◌, not, ◌==◌, if◌then◌else◌, bit_and, List, [], ◌∷◌, drop, map, get_or, slice_set, Option, Some, None, unwrap_or}
use Rattle.std.specs.List.{slice_get}
use Rattle.mcs_ticks.specs.declared.row.What.{What}
use Rattle.mcs_ticks.specs.declared.row.What.TheVariants as row
use Rattle.mcs_script.specs.declared.item.Item.{Item}
use Rattle.mcs_script.specs.declared.item.Item.TheVariants.{Signal, Wait, On, Enter, Leave}
use Rattle.mcs_script.specs.Script.{is_wait}
use Rattle.mcs_system.specs.declared.part.ThreadPart.{ThreadPart}
use Rattle.mcs_system.specs.System.{System, thread_part}
use Rattle.mcs_chain.specs.declared.step.Gone.{Gone}
use Rattle.mcs_chain.specs.declared.step.Step.{Step}

-- an item whose row neither posts nor takes anything, if it has a row at all
abbrev pub is_silent : Item → Bool
is_silent (Signal note badge) = false
is_silent (Wait note) = false
is_silent (Enter server priority) = false
is_silent (Leave server priority) = false
is_silent _ = true

-- the handler in which the items behind this one lie
abbrev pub handler_behind : Item → ℕ → ℕ
handler_behind (On badges) handler = badges
handler_behind _ handler = handler

abbrev pub behind : Item → Step → Step
behind item step = record { item = step.item + 1; handler = handler_behind item step.handler }

-- whether a round that began with this word passes over a handler of these badges
abbrev pub passes : ℕ → ℕ → Bool
passes word handler = not (handler == 0) && (bit_and word handler == 0)

-- the first of these items that the round goes through and that posts or takes; the first one of all is this step
abbrev pub next_step : ℕ → Step → List Item → Option Step
next_step word step [] = None
next_step word step (item ∷ items) =
    if passes word step.handler || is_silent item then next_step word (behind item step) items else Some step

-- the script's first item, which lies in no handler
abbrev pub first_step : Step
first_step = record { item = 0; handler = 0 }

-- a thread at the beginning of a round
abbrev pub fresh : Gone
fresh = record { next = first_step; word = 0 }

-- The step of the thread's next row that posts or takes. If no step is left for the word, the thread is at its first wait again.
abbrev pub step_of : ThreadPart → Gone → Step
step_of part gone = unwrap_or (next_step gone.word gone.next (drop gone.next.item part.script)) first_step

-- whether the step is the wait with which the script begins
abbrev pub is_first_wait : ThreadPart → Step → Bool
is_first_wait part step = (step.item == 0) && is_wait (slice_get part.script 0)

-- the thread has gone through the step
abbrev pub goes_behind : Step → Gone → Gone
goes_behind step gone = record gone { next = record { item = step.item + 1; handler = step.handler } }

-- so is a wait that gave this word, which begins the round if it is the script's first
abbrev pub is_given : ThreadPart → Step → ℕ → Gone → Gone
is_given part step word gone = record (goes_behind step gone) { word = if is_first_wait part step then word else gone.word }

-- a row of this thread
abbrev pub goes_by : ThreadPart → What → Gone → Gone
goes_by part (row.Signal x note badge) gone = goes_behind (step_of part gone) gone
goes_by part (row.Wake x note word until) gone = is_given part (step_of part gone) word gone
goes_by part (row.Got x note word) gone = is_given part (step_of part gone) word gone
goes_by part (row.Round x number response) gone = fresh
goes_by part _ gone = gone

-- the thread of a row that posts, takes or ends a round
abbrev pub goer : What → Option ℕ
goer (row.Signal x note badge) = Some x
goer (row.Wake x note word until) = Some x
goer (row.Got x note word) = Some x
goer (row.Round x number response) = Some x
goer _ = None

-- how far each thread has gone
abbrev pub gone_of : List Gone → ℕ → Gone
gone_of all thread = get_or all thread fresh

abbrev pub one_goes : System → What → Option ℕ → List Gone → List Gone
one_goes system what None all = all
one_goes system what (Some thread) all = slice_set all thread (goes_by (thread_part system thread) what (gone_of all thread))

abbrev pub all_go : System → What → List Gone → List Gone
all_go system what all = one_goes system what (goer what) all

abbrev pub all_fresh : System → List Gone
all_fresh system = map (λ _. fresh) system.threads
