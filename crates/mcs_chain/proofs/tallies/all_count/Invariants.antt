use Rattle.std.proofs.Common.{◌≡◌, ◌++◌, ◌∷◌, ℕ, List, map, take, drop}
use Rattle.mcs_ticks.specs.declared.row.Row.{Row as TheRow}
use Rattle.mcs_system.specs.System.{System as TheSystem}
use Rattle.mcs_chain.specs.Figures.{tally_of}
use Rattle.mcs_chain.specs.Watch.{one_of}
use Rattle.mcs_chain.proofs.tallies.all_count.Given as goal

abbrev pub invariant-loop-i : goal.invariant-loop-i
invariant-loop-i l =
    (horizon : ℕ) (system : TheSystem) (past : List TheRow) → l.ones ≡ map (λ chain. one_of system chain (l.row ∷ past)) l.chains
    → l.initial.each ≡ map (λ chain. tally_of horizon system chain past) l.chains
    → l.each ≡ map (λ chain. tally_of horizon system chain (l.row ∷ past)) (take l.i l.chains) ++ map (λ chain. tally_of horizon system chain past) (drop l.i l.chains)
