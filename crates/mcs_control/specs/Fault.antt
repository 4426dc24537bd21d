-- The texts of the faults of a configuration.
use Rattle.std.specs.Prelude.{ℕ, List, codes}
use Rattle.mcs_control.specs.declared.config.ControlFault.{ControlFault}
use Rattle.mcs_control.specs.declared.config.ControlFault.TheVariants as fault

abbrev pub control_fault_text : ControlFault → List ℕ
control_fault_text fault.ZeroBudget = codes "zero budget"
control_fault_text fault.BudgetTooSmall = codes "budget too small"
control_fault_text fault.BudgetOverPeriod = codes "budget over period"
control_fault_text fault.PeriodTooLong = codes "period too long"
control_fault_text fault.TooManyRefills = codes "too many refills"
