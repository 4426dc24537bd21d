use Rattle.std.proofs.Common.{◌≡◌, ℕ, ◌-◌, List, ◌++◌, map, drop}
use Rattle.mcs_chain.specs.Figures.{tally_with}
use Rattle.mcs_chain.proofs.tally.Tally.answer_all.Given as goal

-- the answers for the origins from the i-th on are counted
abbrev pub invariant-loop-i : goal.invariant-loop-i
invariant-loop-i l =
    (horizon started : ℕ) (latencies : List ℕ) → l.initial.self ≡ tally_with horizon started latencies
    → l.self ≡ tally_with horizon started (map (λ origin. l.moment - origin) (drop l.i l.origins) ++ latencies)
