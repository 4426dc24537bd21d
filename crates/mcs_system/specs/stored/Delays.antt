-- The delays of all pairs of cores in one list, and the minimum over some pairs, as the search
-- proceeds.
use Rattle.std.specs.Prelude.{ℕ, ◌≡◌, ◌≢◌, ◌+◌, ◌*◌, ◌<◌, ◌≤◌, ◌^◌, List, length, slice_index}
use Rattle.mcs_system.specs.declared.part.Link.{Link}
use Rattle.mcs_system.specs.System.{System, delay_by_link, delay_between, HasDelay}

-- the delay of a pair is at its index, maker by maker
pub record AreDelays (links : List Link) (delay : ℕ) (delays : List ℕ) : Type 0 where
  pub room : length delays ≡ 4096
  pub each : (maker home : ℕ) → maker < 64 → home < 64 →
      slice_index delays (maker * 64 + home) ≡ delay_by_link links maker home delay

-- it is at most each of their delays, and is 2^20 or a delay of the system
pub record IsLeastAmong (system : System) (among : ℕ → ℕ → Type 0) (least : ℕ) : Type 0 where
  pub below : (maker home : ℕ) → among maker home → maker ≢ home → least ≤ delay_between system maker home
  pub most : least ≤ 2 ^ 20
  pub there : least ≢ 2 ^ 20 → HasDelay system least

-- the pairs of one maker with the cores before the n-th
abbrev pub To : ℕ → ℕ → ℕ → ℕ → Type 0
To core n maker home = (maker ≡ core) × (home < n)

-- the pairs of the makers before the n-th with all cores
abbrev pub From : ℕ → ℕ → ℕ → ℕ → Type 0
From cores n maker home = (maker < n) × (home < cores)
