-- The lines of the faults of a run.
use Rattle.std.specs.Prelude.{ℕ, List, ◌++◌, codes}
use Rattle.mcs_load.specs.Text.{load_fault_text}
use Rattle.mcs_cli.specs.declared.fault.RunFault.{RunFault}
use Rattle.mcs_cli.specs.declared.fault.RunFault.TheVariants as fault

-- without the line feed
abbrev pub run_fault_text : RunFault → List ℕ
run_fault_text fault.Read = codes "mcsim: read failed"
run_fault_text (fault.Load f) = codes "mcsim: " ++ load_fault_text f
run_fault_text (fault.Sim f) = codes "mcsim: no memory"
run_fault_text fault.Write = codes "mcsim: write failed"
