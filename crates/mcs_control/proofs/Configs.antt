-- A configuration that passed the check is in range.
use Rattle.std.proofs.Common.{arith, rules}
use Rattle.mcs_control.specs.Control.{PassedAreConfigs}

pub passed-configs : PassedAreConfigs
passed-configs min_budget config kind e = search (rules, arith)
