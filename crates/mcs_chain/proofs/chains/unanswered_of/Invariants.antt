use Rattle.std.proofs.Common.{◌≡◌, drop, ◌++◌, List, map}
use Rattle.mcs_ticks.specs.declared.row.Row.{Row as TheRow}
use Rattle.mcs_chain.specs.Found.{all_unanswered}
use Rattle.mcs_chain.specs.Watch.{one_of}
use Rattle.mcs_chain.proofs.chains.unanswered_of.Given as goal

abbrev pub invariant-loop-number : goal.invariant-loop-number
invariant-loop-number l =
    (past : List TheRow) → l.each ≡ map (λ chain. one_of l.parts chain past) l.parts.chains
    → l.found.items ++ all_unanswered l.parts past l.horizon l.number (drop l.number l.parts.chains) ≡ all_unanswered l.parts past l.horizon 0 l.parts.chains
