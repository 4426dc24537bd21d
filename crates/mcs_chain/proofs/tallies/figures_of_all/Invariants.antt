use Rattle.std.proofs.Common.{◌≡◌, ℕ, List, map, take}
use Rattle.mcs_ticks.specs.declared.row.Row.{Row as TheRow}
use Rattle.mcs_system.specs.System.{System as TheSystem}
use Rattle.mcs_chain.specs.Figures.{figures_of, tally_of}
use Rattle.mcs_chain.proofs.tallies.figures_of_all.Given as goal

abbrev pub invariant-loop-i : goal.invariant-loop-i
invariant-loop-i l =
    (horizon : ℕ) (system : TheSystem) (past : List TheRow) → l.each ≡ map (λ chain. tally_of horizon system chain past) l.chains
    → l.all.items ≡ map (λ chain. figures_of horizon system chain past) (take l.i l.chains)
