-- The origins that a row moves. A place is a bit of a word, 1 to 2^31, or a thread's free set, 2^32.
use Rattle.std.specs.Prelude.{ℕ, ◌-◌, ◌^◌, ◌==◌, if◌then◌else◌, bit_and, bit_or, List, unwrap_or}
use Rattle.mcs_ticks.specs.declared.row.Row.{Row}
use Rattle.mcs_ticks.specs.declared.row.What.{What}
use Rattle.mcs_ticks.specs.declared.row.What.TheVariants as row
use Rattle.mcs_system.specs.declared.part.ThreadPart.{ThreadPart}
use Rattle.mcs_system.specs.System.{System, thread_part, note_part, is_server, delay_between}
use Rattle.mcs_verdict.specs.Calls.{bits_of}
use Rattle.mcs_chain.specs.declared.moves.Move.{Move}
use Rattle.mcs_chain.specs.declared.moves.Move.TheVariants.{Nothing, Start, Give, Send, Land, Hold, Wake, Got, End}
use Rattle.mcs_origins.specs.declared.taking.Taking.{Taking}
use Rattle.mcs_origins.specs.declared.taking.Taking.TheVariants.{First, Later}
use Rattle.mcs_chain.specs.declared.step.Gone.{Gone}
use Rattle.mcs_chain.specs.declared.step.Step.{Step}
use Rattle.mcs_chain.specs.Steps.{step_of, is_first_wait, gone_of}

-- a thread's free set
abbrev pub free : ℕ
free = 2 ^ 32

-- the bits of a word
abbrev pub all_bits : ℕ
all_bits = 2 ^ 32 - 1

-- the places for badges: their bits, or all bits if there are none; and the free set
abbrev pub reach : ℕ → ℕ
reach badges = bit_or (if badges == 0 then all_bits else badges) free

-- the bits of the first word that, each alone, leave something to do
abbrev pub called_bits : ThreadPart → ℕ
called_bits part = unwrap_or (bits_of part) all_bits

-- the places for what a later wait gives: the bits of the round's word that its handler has, or the free set if it lies in no handler
abbrev pub later_places : ℕ → ℕ → ℕ
later_places handler word = if handler == 0 then free else bit_and word handler

abbrev pub taking : ThreadPart → Step → Gone → Taking
taking part step gone =
    if is_first_wait part step then First (called_bits part) else Later (later_places step.handler gone.word)

-- a signal, which leaves this core if its notification is at home on another one
abbrev pub gives : System → Row → ℕ → ℕ → ℕ → Step → Move
gives system r thread note badge step =
    if is_server system note then Nothing
    else if (note_part system note).core == r.core then Give thread (reach step.handler) badge
    else Send thread (reach step.handler) badge note r.core r.moment

-- what a row moves, if the threads are as far as given
abbrev pub moves_by : System → List Gone → Row → What → Move
moves_by system all r (row.Interrupt source note badge) = Start source badge
moves_by system all r (row.Signal thread note badge) =
    gives system r thread note badge (step_of (thread_part system thread) (gone_of all thread))
moves_by system all r (row.Arrive note badge maker) = Land note maker (r.moment - delay_between system maker r.core)
moves_by system all r (row.Hold note word) = Hold note
moves_by system all r (row.Wake thread note word until) =
    let part = thread_part system thread in
    Wake thread (taking part (step_of part (gone_of all thread)) (gone_of all thread))
moves_by system all r (row.Got thread note word) =
    let part = thread_part system thread in
    Got thread note (taking part (step_of part (gone_of all thread)) (gone_of all thread))
moves_by system all r (row.Round thread number response) = End thread (gone_of all thread).word
moves_by system all r _ = Nothing

abbrev pub moves : System → List Gone → Row → Move
moves system all r = moves_by system all r r.what
