use Rattle.std.proofs.Common.{◌≡◌, drop, fold}
use Rattle.mcs_hints.specs.Carried.{carried_behind}
use Rattle.mcs_hints.proofs.carried.Carried.last.Given as goal

abbrev pub invariant-loop-item : goal.invariant-loop-item
invariant-loop-item l =
    fold (λ carried item. carried_behind l.words item carried) l.carried (drop l.item-index l.later)
    ≡ fold (λ carried item. carried_behind l.words item carried) l.initial.carried l.later
