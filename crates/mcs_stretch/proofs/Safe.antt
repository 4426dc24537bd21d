-- Orders that are safe in the one sense and the other.
use Rattle.std.proofs.Common.{ℕ, suc, List, [], ◌∷◌, set}
use Rattle.std.specs.Prelude.{slice_index}
use Rattle.mcs_system.specs.System.{System}
use Rattle.mcs_laws.specs.Links.{Signals}
use Rattle.mcs_stretch.specs.Safe.{IsSafe}
use Rattle.mcs_stretch.specs.ByScripts.{IsSafeByScripts, SafeOrdersAreByScripts}
use Rattle.mcs_stretch.proofs.Leading.{IsSafeBy}

pub safe-by : (system : System) (horizon : ℕ) (clocks cs : List ℕ) → IsSafeBy system horizon (λ b c. Unit {0}) clocks cs → IsSafe system horizon clocks cs
safe-by system horizon clocks [] h = tt
safe-by system horizon clocks (c ∷ cs) h = (
  record { known = h.0.known; in_time = h.0.in_time; safe = λ b l other. h.0.safe b l other tt },
  safe-by system horizon (set clocks c (suc (slice_index clocks c))) cs h.1,
)

pub by-scripts : (system : System) (horizon : ℕ) (clocks cs : List ℕ) → IsSafeBy system horizon (Signals system) clocks cs → IsSafeByScripts system horizon clocks cs
by-scripts system horizon clocks [] h = tt
by-scripts system horizon clocks (c ∷ cs) h = (
  record { known = h.0.known; in_time = h.0.in_time; safe = h.0.safe },
  by-scripts system horizon (set clocks c (suc (slice_index clocks c))) cs h.1,
)

pub safe-by_scripts : SafeOrdersAreByScripts
safe-by_scripts system horizon clocks [] h = tt
safe-by_scripts system horizon clocks (c ∷ cs) h = (
  record { known = h.0.known; in_time = h.0.in_time; safe = λ b l other r. h.0.safe b l other },
  safe-by_scripts system horizon (set clocks c (suc (slice_index clocks c))) cs h.1,
)
