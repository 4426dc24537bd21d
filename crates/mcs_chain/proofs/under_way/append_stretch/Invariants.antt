use Rattle.std.proofs.Common.{◌≡◌, ◌++◌, length, map, take}
use Rattle.mcs_chain.specs.Origins.{sent}
use Rattle.mcs_origins.specs.stored.Stretches.{run}
use Rattle.mcs_chain.proofs.under_way.append_stretch.Given as goal

abbrev pub invariant-loop-number : goal.invariant-loop-number
invariant-loop-number l = record {
  under_way : l.under_way.items ≡ l.initial.under_way.items ++ map (sent l.note l.maker l.made) (run l.stretch.last l.stretch.step l.number l.stretch.places);
  kept : take (length l.initial.under_way.items) l.under_way.items ≡ l.initial.under_way.items;
}
