-- The lines of the faults of a check for all time, and its exit codes.
use Rattle.std.specs.Prelude.{ℕ, List, Option, Some, codes}
use Rattle.mcs_check_run.specs.Fault.{check_fault_text, status_of as status_of_check}
use Rattle.mcs_check_forever.specs.declared.forever_fault.ForeverFault.{ForeverFault}
use Rattle.mcs_check_forever.specs.declared.forever_fault.ForeverFault.TheVariants.{Check, Mixed}

-- without the line feed
abbrev pub forever_fault_text : ForeverFault → Option (List ℕ)
forever_fault_text (Check fault) = check_fault_text fault
forever_fault_text Mixed = Some (codes "mcscheck: --forever: not with --show, --strict, --why or --format csv")

abbrev pub status_of : ForeverFault → ℕ
status_of (Check fault) = status_of_check fault
status_of Mixed = 2
