-- Which cores may take their turns before the others have come as far, by the scripts.
use Rattle.std.specs.Prelude.{ℕ, suc, ◌+◌, ◌<◌, ◌≤◌, ◌≢◌, List, [], ◌∷◌, slice_index, slice_set}
use Rattle.mcs_system.specs.System.{System, delay_between}
use Rattle.mcs_laws.specs.Links.{Signals}
use Rattle.mcs_stretch.specs.Safe.{IsSafe}

-- core c, at its clock, is at most at the horizon, and no signal that an earlier core still makes
-- can reach it there; only cores whose threads signal it by their scripts count
pub record MayStepByScripts (system : System) (horizon : ℕ) (clocks : List ℕ) (c : ℕ) : Type 0 where
  pub known : c < system.cores
  pub in_time : slice_index clocks c ≤ horizon
  pub safe : (b : ℕ) → b < system.cores → b ≢ c → Signals system b c → slice_index clocks c < slice_index clocks b + delay_between system b c

-- each named core takes one turn
abbrev pub IsSafeByScripts : System → ℕ → List ℕ → List ℕ → Type 0
IsSafeByScripts system horizon clocks [] = Unit {0}
IsSafeByScripts system horizon clocks (c ∷ cs) =
    MayStepByScripts system horizon clocks c
    × IsSafeByScripts system horizon (slice_set clocks c (suc (slice_index clocks c))) cs

-- the clocks after those turns
abbrev pub clocks_after : List ℕ → List ℕ → List ℕ
clocks_after clocks [] = clocks
clocks_after clocks (c ∷ cs) = clocks_after (slice_set clocks c (suc (slice_index clocks c))) cs

-- no signal of a core that signals core c by its scripts, made from its clock on, arrives before
-- `past`
abbrev pub IsFarByScripts : System → List ℕ → ℕ → ℕ → Type 0
IsFarByScripts system clocks c past =
    (b : ℕ) → b < system.cores → b ≢ c → Signals system b c → past ≤ slice_index clocks b + delay_between system b c

-- a safe order is safe by the scripts
abbrev pub SafeOrdersAreByScripts : Type 0
SafeOrdersAreByScripts =
    (system : System) (horizon : ℕ) (clocks cs : List ℕ) → IsSafe system horizon clocks cs
    → IsSafeByScripts system horizon clocks cs
