-- The lines of the faults of a check, and its exit codes.
use Rattle.std.specs.Prelude.{ℕ, List, ◌++◌, Option, Some, None, codes, string_bytes}
use Rattle.std.specs.Fmt.{debug_str, ◌++?◌}
use Rattle.mcs_load.specs.Text.{load_fault_text}
use Rattle.mcs_cli.specs.declared.fault.RunFault.TheVariants as run
use Rattle.mcs_cli.specs.Status.{status_of_run}
use Rattle.mcs_check_run.specs.declared.fault.CheckFault.{CheckFault}
use Rattle.mcs_check_run.specs.declared.fault.CheckFault.TheVariants.{Run, Unknown, Mixed}

-- without the line feed; a given name is written as Rust's `{:?}` does, and has no line feed in it
abbrev pub check_fault_text : CheckFault → Option (List ℕ)
check_fault_text (Run run.Read) = Some (codes "mcscheck: read failed")
check_fault_text (Run (run.Load fault)) = Some (codes "mcscheck: " ++ load_fault_text fault)
check_fault_text (Run (run.Sim fault)) = Some (codes "mcscheck: no memory")
check_fault_text (Run run.Write) = Some (codes "mcscheck: write failed")
check_fault_text (Unknown name (Some near)) =
    Some (codes "mcscheck: --allow-lost: no notification is called ") ++? debug_str (string_bytes name)
    ++? Some (codes ": the nearest is " ++ string_bytes near)
check_fault_text (Unknown name None) =
    Some (codes "mcscheck: --allow-lost: no notification is called ") ++? debug_str (string_bytes name) ++? Some (codes ": there is none")
check_fault_text Mixed = Some (codes "mcscheck: --format csv: rows are of one kind: --show findings, jobs or table")

-- the arguments are to blame for an unknown name and for rows of two kinds
abbrev pub status_of : CheckFault → ℕ
status_of (Run fault) = status_of_run fault
status_of (Unknown name nearest) = 2
status_of Mixed = 2
