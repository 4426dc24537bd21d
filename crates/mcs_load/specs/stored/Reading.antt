-- The script that a reader has read so far.
use Rattle.mcs_load.specs.declared.script.Reading.{Reading}
use Rattle.std.specs.Prelude.{ℕ, ◌<◌}
use Rattle.mcs_load.specs.declared.script.Resolved.{Resolved}
use Rattle.mcs_load.specs.declared.script.Resolved.TheVariants.{Step, CallOf}
use Rattle.mcs_load.specs.Script.{Body}

abbrev pub reading_view : Reading → Body
reading_view reading = record { firsts = reading.firsts.items; steps = reading.steps.items }

-- the called server exists
abbrev pub IsWithin : ℕ → Resolved → Type 0
IsWithin count (Step item) = Unit {0}
IsWithin count (CallOf place badge) = place < count
