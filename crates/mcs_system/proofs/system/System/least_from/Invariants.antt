use Rattle.mcs_system.specs.stored.Delays.{IsLeastAmong, To}
use Rattle.mcs_system.proofs.system.System.least_from.Given as goal

abbrev pub invariant-loop-home : goal.invariant-loop-home
invariant-loop-home l = IsLeastAmong l.self (To l.maker l.home) l.least
