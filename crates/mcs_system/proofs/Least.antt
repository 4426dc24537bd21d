-- The least of the delays of some pairs of cores.
use Rattle.std.proofs.Common.{◌≡◌, ◌≢◌, ℕ, ◌≤◌, ◌^◌, ◌⊎◌, inl, inr, arith}
use Rattle.std.proofs.lemmas.Bool.{cases_eq}
use Rattle.mcs_system.specs.System.{System, delay_between, HasDelay, IsLeastDelay}
use Rattle.mcs_system.specs.stored.Delays.{IsLeastAmong, From}
use Rattle.mcs_system.specs.WellFormed.{IsWellFormed}
use Rattle.mcs_system.proofs.Linked.{delays_within}

module _ (system : System) (well : IsWellFormed system) (least : ℕ) (all : IsLeastAmong system (From system.cores system.cores) least) where
  pub least_of_all : IsLeastDelay system least
  least_of_all = record {
    below = λ maker home maker_known home_known differ. all.below maker home (maker_known, home_known) differ;
    there = λ two. by two (cases_eq least (2 ^ 20));
  }
    where
      first : 2 ≤ system.cores → least ≡ 2 ^ 20 → delay_between system 0 1 ≡ least
      first two most =
          let differ : ◌≢◌ {A = ℕ} 0 1 = omega arith in
          let low = all.below 0 1 (omega arith, omega arith) differ in
          let high = (delays_within system well 0 1).1 in
          omega (arith, low, high, most)

      by : 2 ≤ system.cores → (least ≡ 2 ^ 20) ⊎ (least ≢ 2 ^ 20) → HasDelay system least
      by two (inl most) = record { maker = 0; home = 1; maker_known = omega arith; home_known = omega arith; differ = omega arith; is = first two most }
      by two (inr other) = all.there other

  pub least_within : (1 ≤ least) × (least ≤ 2 ^ 20)
  least_within =
      (by (cases_eq least (2 ^ 20)), all.most)
    where
      by : (least ≡ 2 ^ 20) ⊎ (least ≢ 2 ^ 20) → 1 ≤ least
      by (inl most) = omega (arith, most)
      by (inr other) =
          let pair = all.there other in
          let low = (delays_within system well pair.maker pair.home).0 in
          omega (arith, low, pair.is)
