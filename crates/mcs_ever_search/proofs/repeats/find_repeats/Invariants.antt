use Rattle.std.proofs.Common.{◌≡◌, ◌+◌, ◌-◌}
use Rattle.std.specs.Arc.{arc_value}
use Rattle.mcs_ever_search.specs.Repeats.{AreTold}
use Rattle.mcs_ever_search.proofs.repeats.find_repeats.Given as goal

abbrev pub invariant-loop-told : goal.invariant-loop-told
invariant-loop-told l = record {
  told : AreTold (arc_value l.fn.system) l.fn.horizon l.groups l.told.items;
  system : l.compared.system ≡ arc_value l.fn.system;
  horizon : l.compared.horizon ≡ l.fn.horizon;
}

abbrev pub decreases-loop-told : goal.decreases-loop-told
decreases-loop-told l = l.fn.horizon + 1 - l.compared.clock
