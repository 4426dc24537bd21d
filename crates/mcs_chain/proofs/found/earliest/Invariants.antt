use Rattle.std.proofs.Common.{◌≡◌, min, take}
use Rattle.std.specs.Prelude.{fold}
use Rattle.mcs_chain.proofs.found.earliest.Given as goal

abbrev pub invariant-loop-origin : goal.invariant-loop-origin
invariant-loop-origin l = l.least ≡ fold min l.initial.least (take l.origin-index l.others)
