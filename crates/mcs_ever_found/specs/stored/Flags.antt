-- The flag that a row sets.
use Rattle.std.specs.Prelude.{ℕ, Bool, true, false, List, length, replicate, set, Option, Some, None}
use Rattle.mcs_ticks.specs.declared.row.What.{What}
use Rattle.mcs_ticks.specs.declared.row.What.TheVariants as row
use Rattle.mcs_ever_found.specs.Doings.{Doings}

-- the thread whose round ends
abbrev pub ended_by : What → Option ℕ
ended_by (row.Round thread number response) = Some thread
ended_by _ = None

-- the notification whose word is taken
abbrev pub taken_by : What → Option ℕ
taken_by (row.Got thread note word) = Some note
taken_by _ = None

-- the flag of that number is set, if there is one
abbrev pub marked : Option ℕ → List Bool → List Bool
marked None flags = flags
marked (Some x) flags = set flags x true

-- all flags are cleared
abbrev pub unmarked : List Bool → List Bool
unmarked flags = replicate (length flags) false

abbrev pub nothing_done : Doings → Doings
nothing_done doings =
    record {
      ended = unmarked doings.ended;
      taken = unmarked doings.taken;
    }
