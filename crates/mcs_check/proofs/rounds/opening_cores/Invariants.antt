use Rattle.std.specs.Arc.{arc_value}
use Rattle.mcs_check.proofs.Cores.{AreUnused}
use Rattle.mcs_check.proofs.rounds.opening_cores.Given as goal

abbrev pub invariant-loop : goal.invariant-loop
invariant-loop l = AreUnused (arc_value l.system) l.counter l.watches.items
