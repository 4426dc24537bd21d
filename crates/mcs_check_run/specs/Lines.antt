-- Lines on their way to a target.
use Rattle.std.specs.Prelude.{ℕ, Bool, true, if◌then◌else◌, List, [], ◌∷◌, ◌++◌}
use Rattle.mcs_ticks.specs.declared.row.Row.{Row}
use Rattle.mcs_cli.specs.declared.fault.RunFault.{RunFault}
use Rattle.mcs_cli.specs.declared.fault.RunFault.TheVariants as fault
use Rattle.mcs_team.specs.declared.run.SimFault.TheVariants.{NoMemory}

-- whether the target has failed after a line was refused
abbrev pub failed_after : Bool → Bool → Bool
failed_after is_out_of_memory before = if is_out_of_memory then before else true

-- the fault of a refused line
abbrev pub refusal : Bool → RunFault
refusal is_out_of_memory = if is_out_of_memory then fault.Sim NoMemory else fault.Write

-- the lines of rows, each by the rows before it
abbrev pub lines_of : (List Row → Row → List ℕ) → List Row → List Row → List ℕ
lines_of line past [] = []
lines_of line past (r ∷ rows) = line past r ++ lines_of line (r ∷ past) rows
