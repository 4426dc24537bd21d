use Rattle.mcs_system.specs.stored.Delays.{IsLeastAmong, From}
use Rattle.mcs_system.proofs.system.System.least_delay.Given as goal

abbrev pub invariant-loop-maker : goal.invariant-loop-maker
invariant-loop-maker l = IsLeastAmong l.self (From l.self.cores l.maker) l.least
