use Rattle.std.proofs.Common.{◌≡◌, take, drop, ◌∷◌, ◌++◌, List, map}
use Rattle.mcs_ticks.specs.declared.row.Row.{Row as TheRow}
use Rattle.mcs_system.specs.System.{System as TheSystem}
use Rattle.mcs_chain.specs.Answers.{gone_after}
use Rattle.mcs_chain.specs.Moves.{moves}
use Rattle.mcs_chain.specs.Watch.{one_of}
use Rattle.mcs_chain.proofs.chains.all_see.Given as goal

abbrev pub invariant-loop-i : goal.invariant-loop-i
invariant-loop-i l =
    (system : TheSystem) (past : List TheRow) → l.initial.each ≡ map (λ chain. one_of system chain past) l.chains
    → l.moved ≡ moves system (gone_after system past) l.row
    → l.each ≡ map (λ chain. one_of system chain (l.row ∷ past)) (take l.i l.chains) ++ map (λ chain. one_of system chain past) (drop l.i l.chains)
