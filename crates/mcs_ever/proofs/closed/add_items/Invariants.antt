use Rattle.mcs_ever.specs.stored.Makers.{AreMakersUntil}
use Rattle.mcs_ever.proofs.closed.add_items.Given as goal

abbrev pub invariant-loop-item : goal.invariant-loop-item
invariant-loop-item l = AreMakersUntil l.system l.fn.thread l.item l.makers
