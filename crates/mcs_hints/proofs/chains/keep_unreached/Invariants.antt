use Rattle.std.proofs.Common.{◌≡◌, ◌++◌}
use Rattle.std.specs.List.{filter_map}
use Rattle.mcs_hints.specs.Numbers.{numbers}
use Rattle.mcs_hints.specs.Chains.{unreached}
use Rattle.mcs_hints.proofs.chains.keep_unreached.Given as goal

abbrev pub invariant-loop-chain : goal.invariant-loop-chain
invariant-loop-chain l = l.hints.items ≡ l.initial.hints.items ++ filter_map (unreached l.system) (numbers l.chain)
