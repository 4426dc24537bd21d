use Rattle.std.proofs.Common.{◌≡◌, ◌≤◌, length}
use Rattle.std.specs.List.{All, filter_map}
use Rattle.mcs_hints.specs.Numbers.{numbers}
use Rattle.mcs_hints.specs.Cores.{part_of}
use Rattle.mcs_hints.specs.Exact.{IsFraction}
use Rattle.mcs_hints.proofs.cores.parts_of.Given as goal

abbrev pub invariant-loop-context : goal.invariant-loop-context
invariant-loop-context l = record {
  items : l.parts.items ≡ filter_map (part_of l.system l.core) (numbers l.context);
  all : All IsFraction l.parts.items;
  few : length l.parts.items ≤ l.context;
}
