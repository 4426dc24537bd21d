use Rattle.std.proofs.Common.{◌≡◌, drop, ◌∷◌, ◌++◌, List, map}
use Rattle.mcs_ticks.specs.declared.row.Row.{Row as TheRow}
use Rattle.mcs_system.specs.System.{System as TheSystem}
use Rattle.mcs_chain.specs.Answering.{answers_at}
use Rattle.mcs_chain.specs.Watch.{one_of}
use Rattle.mcs_chain.proofs.answer.answers_at.Given as goal

abbrev pub invariant-loop-number : goal.invariant-loop-number
invariant-loop-number l =
    (system : TheSystem) (past : List TheRow) → l.each ≡ map (λ chain. one_of system chain (l.row ∷ past)) l.chains
    → l.all.items ++ answers_at system past l.row l.number (drop l.number l.chains) ≡ answers_at system past l.row 0 l.chains
