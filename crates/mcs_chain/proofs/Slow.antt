-- How many slow answers a watch counts: as many as there are, at most 2^64 - 1.
use Rattle.std.proofs.Common.{◌≡◌, ◌∙◌, ℕ, suc, ◌+◌, List, [], ◌∷◌, Option, Some, None, length, map, refl, ap, ap₂, sym, arith}
use Rattle.std.specs.Prelude.{fold}
use Rattle.std.proofs.lemmas.List.{length-append}
use Rattle.mcs_ticks.specs.Capped.{capped}
use Rattle.mcs_ticks.specs.declared.row.Row.{Row}
use Rattle.mcs_system.specs.declared.part.ChainPart.{ChainPart}
use Rattle.mcs_system.specs.System.{System}
use Rattle.mcs_chain.specs.declared.finding.Finding.{Finding}
use Rattle.mcs_chain.specs.Answers.{slow}
use Rattle.mcs_chain.specs.Found.{all_slow, found_at, slow_in}
use Rattle.mcs_chain.specs.Watch.{One, all_slow_many, one_if, one_of, slow_sum, watch_of}

length-found : (moment core n : ℕ) (f : Option Finding) → length (found_at moment core n f) ≡ one_if f
length-found moment core n None = refl
length-found moment core n (Some f) = refl

plus-swapped : (a b : ℕ) → a + b ≡ b + a
plus-swapped a b = omega arith

length-slow : (system : System) (n : ℕ) (chain : ChainPart) (past : List Row) → length (slow_in system n chain past) ≡ slow_sum system chain past
length-slow system n chain [] = refl
length-slow system n chain (r ∷ past) =
    let new = found_at r.moment r.core n (slow system chain past r) in
    length-append (slow_in system n chain past) new ∙ ap₂ (λ a b. a + b) (length-slow system n chain past) (length-found r.moment r.core n (slow system chain past r))
    ∙ plus-swapped (slow_sum system chain past) (one_if (slow system chain past r))

capped-sum : (a b : ℕ) → capped (capped a + capped b) ≡ capped (a + b)
capped-sum a b = omega arith

sum-assoc : (a b c : ℕ) → (a + b) + c ≡ a + (b + c)
sum-assoc a b c = omega arith

no-more : (a : ℕ) → capped a ≡ capped (a + 0)
no-more a = omega arith

from-none : (a : ℕ) → 0 + a ≡ a
from-none a = omega arith

module _ (system : System) (past : List Row) where
  slow-fold : (chains : List ChainPart) (n a : ℕ)
      → fold (λ many (one : One). capped (many + one.slow)) (capped a) (map (λ chain. one_of system chain past) chains) ≡ capped (a + length (all_slow system past n chains))
  slow-fold [] n a = no-more a
  slow-fold (chain ∷ chains) n a =
      let rest = map (λ chain. one_of system chain past) chains in
      let later = all_slow system past (suc n) chains in
      ap (λ many. fold (λ many (one : One). capped (many + one.slow)) many rest) (capped-sum a (slow_sum system chain past))
      ∙ slow-fold chains (suc n) (a + slow_sum system chain past)
      ∙ ap capped
      (sum-assoc a (slow_sum system chain past) (length later)
      ∙ ap (λ k. a + k) (ap (λ k. k + length later) (sym (length-slow system n chain past)) ∙ sym (length-append (slow_in system n chain past) later)))

  pub slow-in-all : all_slow_many (watch_of system past).each ≡ capped (length (all_slow system past 0 system.chains))
  slow-in-all = slow-fold system.chains 0 0 ∙ ap capped (from-none (length (all_slow system past 0 system.chains)))
