use Rattle.mcs_check.proofs.Cores.{IsTaking}
use Rattle.mcs_check.proofs.rounds.take_out.Given as goal

abbrev pub invariant-loop-core : goal.invariant-loop-core
invariant-loop-core g l =
    IsTaking g.B.Sought.system g.B.Sought.allowed g.B.Sought.from l.reached l.initial.desk l.desk l.core l.watches.items l.found.items
