use Rattle.std.proofs.Common.{◌≡◌, drop}
use Rattle.mcs_hints.specs.Carried.{with_signals}
use Rattle.mcs_hints.proofs.carried.carry_on.Given as goal

abbrev pub invariant-loop-item : goal.invariant-loop-item
invariant-loop-item l = with_signals l.carried (drop l.item-index l.later) l.words ≡ with_signals l.initial.carried l.later l.initial.words
