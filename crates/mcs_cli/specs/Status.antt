-- The exit codes of a run.
use Rattle.std.specs.Prelude.{ℕ}
use Rattle.mcs_load.specs.declared.fault.FaultKind.{FaultKind}
use Rattle.mcs_load.specs.declared.fault.FaultKind.TheVariants as kind
use Rattle.mcs_cli.specs.declared.fault.RunFault.{RunFault}
use Rattle.mcs_cli.specs.declared.fault.RunFault.TheVariants as run

-- a file is to blame for every fault of its text except out of memory
abbrev pub status_of_file : FaultKind → ℕ
status_of_file kind.NoMemory = 4
status_of_file other = 1

abbrev pub status_of_run : RunFault → ℕ
status_of_run (run.Load fault) = status_of_file fault.kind
status_of_run run.Read = 3
status_of_run run.Write = 3
status_of_run (run.Sim fault) = 4
