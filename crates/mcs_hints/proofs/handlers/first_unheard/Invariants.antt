use Rattle.std.proofs.Common.{◌≡◌, drop}
use Rattle.mcs_hints.specs.Handlers.{first_unheard}
use Rattle.mcs_hints.proofs.handlers.first_unheard.Given as goal

abbrev pub invariant-loop-item : goal.invariant-loop-item
invariant-loop-item l = first_unheard l.taken l.thread l.items ≡ first_unheard l.taken l.thread (drop l.item-index l.items)
