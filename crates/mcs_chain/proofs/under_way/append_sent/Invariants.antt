use Rattle.std.proofs.Common.{◌≡◌, ◌++◌, drop, length, map, take}
use Rattle.mcs_chain.specs.Origins.{sent}
use Rattle.mcs_origins.specs.stored.Stretches.{flat}
use Rattle.mcs_chain.proofs.under_way.append_sent.Given as goal

abbrev pub invariant-loop-i : goal.invariant-loop-i
invariant-loop-i l = record {
  under_way : l.under_way.items ≡ l.initial.under_way.items ++ map (sent l.note l.maker l.made) (flat (drop l.i l.stretches));
  kept : take (length l.initial.under_way.items) l.under_way.items ≡ l.initial.under_way.items;
}
