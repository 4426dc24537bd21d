-- A count that grows at each moment by as much as a period earlier grows by as much in each period.
use Rattle.std.proofs.Common.{◌≡◌, ℕ, zero, suc, ◌+◌, ◌-◌, ◌*◌, ◌<◌, ◌≤◌, sym, ap, ◌∙◌, arith}
use Rattle.std.specs.Prelude.{◌^◌}
use Rattle.mcs_ticks.specs.Capped.{capped}

module _ (many more : ℕ → ℕ) (from by : ℕ) (next : (t : ℕ) → many (suc t) ≡ many t + more t) (same : (t : ℕ) → from ≤ t → more (t + by) ≡ more t) where
  pub grows : (n t : ℕ) → many t ≤ many (t + n)
  grows zero t =
      let e : t + 0 ≡ t = omega arith in
      let here : many (t + 0) ≡ many t = ap many e in
      omega (arith, here)
  grows (suc n) t =
      let e : t + suc n ≡ suc (t + n) = omega arith in
      let here : many (t + suc n) ≡ many (t + n) + more (t + n) = ap many e ∙ next (t + n) in
      omega (arith, here, grows n t)

  module _ (each : ℕ) (first : many (from + by) ≡ many from + each) where
    over : (n : ℕ) → many (from + n + by) ≡ many (from + n) + each
    over zero =
        let e : from + 0 ≡ from = omega arith in
        ap (λ (t : ℕ). many (t + by)) e ∙ first ∙ ap (λ (t : ℕ). many t + each) (sym e)
    over (suc n) =
        let e : from + suc n + by ≡ suc (from + n + by) = omega arith in
        let f : from + suc n ≡ suc (from + n) = omega arith in
        let late : many (from + suc n + by) ≡ many (from + n + by) + more (from + n + by) = ap many e ∙ next (from + n + by) in
        let early : many (from + suc n) ≡ many (from + n) + more (from + n) = ap many f ∙ next (from + n) in
        let as_much : more (from + n + by) ≡ more (from + n) = same (from + n) (omega arith) in
        omega (arith, late, early, as_much, over n)

    pub each-period : (k : ℕ) → many (from + (k + 1) * by) ≡ many (from + k * by) + each
    each-period k =
        let e : from + (k + 1) * by ≡ from + k * by + by = omega arith in
        ap many e ∙ over (k * by)

-- counts that are less than the greatest number of 64 bits are exact
pub exact-first : (a b : ℕ) → a ≤ b → capped a + (capped b - capped a) < 2 ^ 64 - 1 → a ≡ capped a
exact-first a b l few = grind arith

pub exact-more : (a b : ℕ) → a ≤ b → capped a + (capped b - capped a) < 2 ^ 64 - 1 → b ≡ a + (capped b - capped a)
exact-more a b l few = grind arith
