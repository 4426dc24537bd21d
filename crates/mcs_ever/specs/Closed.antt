-- The smallest groups of cores that no other core signals.
use Rattle.std.specs.Prelude.{◌≡◌, ℕ, ◌<◌, Bool, true, false, List, [], length, get_or}
use Rattle.mcs_system.specs.System.{System}
use Rattle.mcs_ever.specs.Recurs.{IsClosed}

-- whether a set, which has a yes or a no for each core, has this one
abbrev pub has : List Bool → ℕ → Bool
has set core = get_or set core false

-- the smallest group with this core that no core outside it signals: each other such group has all
-- of its cores
pub record IsLeastClosed (system : System) (core : ℕ) (group : ℕ → Bool) : Type 0 where
  pub own : group core ≡ true
  pub closed : IsClosed system group
  pub least : (other : ℕ → Bool) → IsClosed system other → other core ≡ true → (c : ℕ) → group c ≡ true → other c ≡ true

-- such a group of each core
pub record AreLeastClosed (system : System) (sets : List (List Bool)) : Type 0 where
  pub many : length sets ≡ system.cores
  pub each : (core : ℕ) → core < system.cores → IsLeastClosed system core (has (get_or sets core []))
