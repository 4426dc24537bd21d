use Rattle.mcs_ever.specs.stored.Makers.{AreMakersUntil}
use Rattle.mcs_ever.proofs.closed.makers.Given as goal

abbrev pub invariant-loop-thread : goal.invariant-loop-thread
invariant-loop-thread l = AreMakersUntil l.system l.thread 0 l.makers.items
