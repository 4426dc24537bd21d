-- How many judged answers a watch counts: as many as there are, at most 2^64 - 1.
use Rattle.std.proofs.Common.{◌≡◌, ◌∙◌, ℕ, ◌+◌, ◌-◌, List, [], ◌∷◌, length, map, ap, ap₂, sym, arith}
use Rattle.std.specs.Prelude.{◌==◌, if◌then◌else◌, fold}
use Rattle.std.proofs.lemmas.List.{length-append, length-map}
use Rattle.mcs_ticks.specs.Capped.{capped}
use Rattle.mcs_ticks.specs.declared.row.Row.{Row}
use Rattle.mcs_system.specs.declared.part.ChainPart.{ChainPart}
use Rattle.mcs_system.specs.System.{System}
use Rattle.mcs_chain.specs.Answers.{judged, latencies, origins}
use Rattle.mcs_chain.specs.Found.{all_judged}
use Rattle.mcs_chain.specs.Watch.{One, all_judged_many, judged_sum, one_of, watch_of}

-- a row more, without a deadline and with one
one-more : (deadline a b : ℕ) → (if deadline == 0 then 0 else a) + (if deadline == 0 then 0 else b) ≡ (if deadline == 0 then 0 else (a + b))
one-more deadline a b = grind arith

judged-sum : (system : System) (chain : ChainPart) (past : List Row) → judged_sum system chain past ≡ judged system chain past
judged-sum system chain [] = grind arith
judged-sum system chain (r ∷ past) =
    let answered = (origins system chain (r ∷ past)).answered in
    let new = map (λ origin. r.moment - origin) answered in
    ap₂ (λ a b. a + b) (ap (λ n. if chain.deadline == 0 then 0 else n) (sym (length-map answered (λ origin. r.moment - origin)))) (judged-sum system chain past)
    ∙ one-more chain.deadline (length new) (length (latencies system chain past))
    ∙ ap (λ n. if chain.deadline == 0 then 0 else n) (sym (length-append new (latencies system chain past)))

capped-sum : (a b : ℕ) → capped (capped a + capped b) ≡ capped (a + b)
capped-sum a b = omega arith

sum-assoc : (a b c : ℕ) → (a + b) + c ≡ a + (b + c)
sum-assoc a b c = omega arith

no-more : (a : ℕ) → capped a ≡ capped (a + 0)
no-more a = omega arith

module _ (system : System) (past : List Row) where
  judged-fold : (chains : List ChainPart) (a : ℕ)
      → fold (λ many (one : One). capped (many + one.judged)) (capped a) (map (λ chain. one_of system chain past) chains) ≡ capped (a + all_judged system past chains)
  judged-fold [] a = no-more a
  judged-fold (chain ∷ chains) a =
      let rest = map (λ chain. one_of system chain past) chains in
      ap (λ many. fold (λ many (one : One). capped (many + one.judged)) many rest) (capped-sum a (judged_sum system chain past))
      ∙ judged-fold chains (a + judged_sum system chain past)
      ∙ ap capped
      (sum-assoc a (judged_sum system chain past) (all_judged system past chains)
      ∙ ap (λ k. a + (k + all_judged system past chains)) (judged-sum system chain past))

  pub judged-in-all : all_judged_many (watch_of system past).each ≡ capped (all_judged system past system.chains)
  judged-in-all = judged-fold system.chains 0 ∙ ap capped (from-none (all_judged system past system.chains))
    where
      from-none : (a : ℕ) → 0 + a ≡ a
      from-none a = omega arith
