use Rattle.std.proofs.Common.{◌≡◌, drop}
use Rattle.mcs_hints.specs.Ceilings.{first_inverted}
use Rattle.mcs_hints.proofs.ceilings.first_inverted.Given as goal

abbrev pub invariant-loop-item : goal.invariant-loop-item
invariant-loop-item l = first_inverted l.thread l.priority l.items ≡ first_inverted l.thread l.caller (drop l.item-index l.items)
