-- A row of a schedule as named values.
use Rattle.std.specs.Prelude.{ℕ, if◌then◌else◌, [], ◌∷◌, codes, Some}
use Rattle.mcs_ticks.specs.declared.row.Row.{Row}
use Rattle.mcs_ticks.specs.declared.row.What.{What}
use Rattle.mcs_ticks.specs.declared.row.What.TheVariants as row
use Rattle.mcs_fields.specs.Fields.{Text, Value, amount, empty, name}
use Rattle.mcs_system.specs.System.{System, is_server}
use Rattle.mcs_text.specs.Text.{context_name, note_name, source_name, thread_name, why_word}
use Rattle.mcs_check_lines.specs.Fields.{Fields}

-- a value that only servers have, and one that only notifications have
abbrev pub of_server : System → ℕ → Value → Value
of_server system note value = if is_server system note then value else empty

abbrev pub of_note : System → ℕ → Value → Value
of_note system note value = if is_server system note then empty else value

-- the kind of a row
abbrev pub kind_of : System → What → Text
kind_of system (row.Release x) = codes "release"
kind_of system (row.Run x) = codes "run"
kind_of system (row.Stop x cause charged until) = codes "stop"
kind_of system (row.Signal x note badge) = if is_server system note then codes "leave" else codes "signal"
kind_of system (row.Arrive note badge maker) = codes "arrive"
kind_of system (row.Wake x note word until) = if is_server system note then codes "enter" else codes "wake"
kind_of system (row.Hold note word) = codes "hold"
kind_of system (row.Got x note word) = if is_server system note then codes "enter" else codes "got"
kind_of system (row.Round x number response) = codes "round"
kind_of system (row.Order context) = codes "order"
kind_of system (row.Interrupt source note badge) = codes "interrupt"

-- its thread, if it has one
abbrev pub thread_of : System → What → Value
thread_of system (row.Release x) = name (thread_name system x)
thread_of system (row.Run x) = name (thread_name system x)
thread_of system (row.Stop x cause charged until) = name (thread_name system x)
thread_of system (row.Signal x note badge) = name (thread_name system x)
thread_of system (row.Wake x note word until) = name (thread_name system x)
thread_of system (row.Got x note word) = name (thread_name system x)
thread_of system (row.Round x number response) = name (thread_name system x)
thread_of system _ = empty

-- the context of an order
abbrev pub context_of : System → What → Value
context_of system (row.Order context) = name (context_name system context)
context_of system _ = empty

-- the source of an interrupt
abbrev pub source_of : System → What → Value
source_of system (row.Interrupt source note badge) = name (source_name system source)
source_of system _ = empty

-- the cause of a stop, the ticks that its context is charged, and the release date if the thread
-- waits for one
abbrev pub why_of : What → Value
why_of (row.Stop x cause charged until) = name (why_word cause)
why_of _ = empty

abbrev pub charged_of : What → Value
charged_of (row.Stop x cause charged until) = amount charged
charged_of _ = empty

abbrev pub until_of : What → Value
until_of (row.Stop x cause charged (Some until)) = amount until
until_of _ = empty

-- its notification or its server, if it has one
abbrev pub note_of : System → What → Value
note_of system (row.Signal x note badge) = of_note system note (name (note_name system note))
note_of system (row.Arrive note badge maker) = name (note_name system note)
note_of system (row.Wake x note word until) = of_note system note (name (note_name system note))
note_of system (row.Hold note word) = name (note_name system note)
note_of system (row.Got x note word) = of_note system note (name (note_name system note))
note_of system (row.Interrupt source note badge) = name (note_name system note)
note_of system _ = empty

abbrev pub server_of : System → What → Value
server_of system (row.Signal x note badge) = of_server system note (name (note_name system note))
server_of system (row.Wake x note word until) = of_server system note (name (note_name system note))
server_of system (row.Got x note word) = of_server system note (name (note_name system note))
server_of system _ = empty

-- the badge of a signal or an interrupt, and the core that made an arriving signal
abbrev pub badge_of : System → What → Value
badge_of system (row.Signal x note badge) = of_note system note (amount badge)
badge_of system (row.Arrive note badge maker) = amount badge
badge_of system (row.Interrupt source note badge) = amount badge
badge_of system _ = empty

abbrev pub maker_of : What → Value
maker_of (row.Arrive note badge maker) = amount maker
maker_of _ = empty

-- the word of a notification, as it is taken or held
abbrev pub word_of : System → What → Value
word_of system (row.Wake x note word until) = of_note system note (amount word)
word_of system (row.Hold note word) = amount word
word_of system (row.Got x note word) = of_note system note (amount word)
word_of system _ = empty

-- the number of a round that ended, and its response
abbrev pub number_of : What → Value
number_of (row.Round x number response) = amount number
number_of _ = empty

abbrev pub response_of : What → Value
response_of (row.Round x number response) = amount response
response_of _ = empty

-- all values of a row
abbrev pub row_fields : System → Row → Fields
row_fields system r =
    (codes "moment", amount r.moment) ∷ (codes "core", amount r.core) ∷ (codes "kind", name (kind_of system r.what))
    ∷ (codes "thread", thread_of system r.what) ∷ (codes "context", context_of system r.what)
    ∷ (codes "source", source_of system r.what) ∷ (codes "why", why_of r.what) ∷ (codes "charged", charged_of r.what)
    ∷ (codes "until", until_of r.what) ∷ (codes "note", note_of system r.what) ∷ (codes "server", server_of system r.what)
    ∷ (codes "badge", badge_of system r.what) ∷ (codes "from", maker_of r.what) ∷ (codes "word", word_of system r.what)
    ∷ (codes "number", number_of r.what) ∷ (codes "response", response_of r.what) ∷ []
