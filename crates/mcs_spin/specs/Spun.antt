-- Threads that only compute, and the system in which they spin.
use Rattle.std.specs.Prelude.{ℕ, Bool, true, false, ◌==◌, ◌&&◌, not, if◌then◌else◌, List, [], ◌∷◌, map}
use Rattle.std.specs.List.{list_all}
use Rattle.mcs_ticks.specs.declared.row.Row.{Row}
use Rattle.mcs_ticks.specs.declared.row.What.{What}
use Rattle.mcs_ticks.specs.declared.row.What.TheVariants as row
use Rattle.mcs_script.specs.declared.item.Item.{Item}
use Rattle.mcs_script.specs.declared.item.Item.TheVariants.{Compute, Spin}
use Rattle.mcs_system.specs.declared.part.ThreadPart.{ThreadPart}
use Rattle.mcs_system.specs.System.{System, thread_part}

-- whether it is a `compute`
abbrev pub is_compute : Item → Bool
is_compute (Compute ticks) = true
is_compute _ = false

-- each item of the script is a `compute`, and there is at least one
abbrev pub computes : List Item → Bool
computes [] = false
computes (item ∷ items) = is_compute item && list_all is_compute items

-- the thread computes without end, and has no deadline
abbrev pub only_computes : ThreadPart → Bool
only_computes part = part.rounds == 0 && part.deadline == 0 && computes part.script

-- if the thread only computes, it has the one item `Spin`
abbrev pub spun_part : ThreadPart → ThreadPart
spun_part part = if only_computes part then record part { script = Spin ∷ [] } else part

-- the system in which these threads spin
abbrev pub spun : System → System
spun system = record system { threads = map spun_part system.threads }

-- whether the thread with this number only computes
abbrev pub is_spun : System → ℕ → Bool
is_spun system thread = only_computes (thread_part system thread)

-- an event is not the end of a round of such a thread
abbrev pub stays_as : System → What → Bool
stays_as system (row.Round thread number response) = not (is_spun system thread)
stays_as system _ = true

-- a row of both schedules
abbrev pub stays : System → Row → Bool
stays system r = stays_as system r.what
