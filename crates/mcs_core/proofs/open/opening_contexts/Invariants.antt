use Rattle.std.proofs.Common.{◌≡◌, take}
use Rattle.mcs_core.specs.stored.Contexts.{seen_contexts, HaveRoom}
use Rattle.mcs_core.specs.Core.{opening_contexts}
use Rattle.mcs_core.proofs.open.opening_contexts.Given as goal

abbrev pub invariant-loop-k : goal.invariant-loop-k
invariant-loop-k l = record {
  contexts : seen_contexts l.contexts.items ≡ opening_contexts l.system l.core 0 (take l.k l.system.contexts);
  room : HaveRoom l.contexts.items;
}
