use Rattle.std.proofs.Common.{◌≡◌, ◌*◌, ◌≤◌, take}
use Rattle.std.specs.List.{sum_by}
use Rattle.mcs_hints.specs.Exact.{wholes_of}
use Rattle.mcs_hints.proofs.exact.wholes.Given as goal

abbrev pub invariant-loop-fraction : goal.invariant-loop-fraction
invariant-loop-fraction l = record {
  sum : l.wholes ≡ sum_by wholes_of (take l.fraction-index l.fractions);
  few : l.wholes ≤ l.fraction-index * 1048576;
}
