use Rattle.std.proofs.Common.{◌≡◌, ◌++◌, map, take, drop}
use Rattle.mcs_hints.specs.Exact.{rest_of}
use Rattle.mcs_hints.proofs.exact.keep_rests.Given as goal

abbrev pub invariant-loop-fraction : goal.invariant-loop-fraction
invariant-loop-fraction l =
    l.fractions ≡ map rest_of (take l.fraction-index l.initial.fractions) ++ drop l.fraction-index l.initial.fractions
