-- Which cores may take their turns before the others have come as far, by the signals that the
-- cores make.
use Rattle.std.specs.Prelude.{◌≡◌, ℕ, suc, ◌<◌, ◌≤◌, List, [], ◌∷◌, map, replicate, slice_index, slice_set}
use Rattle.std.specs.List.{range_with_len}
use Rattle.mcs_merge.specs.Merge.{merged}
use Rattle.mcs_system.specs.System.{System}
use Rattle.mcs_core.specs.Clock.{schedule}
use Rattle.mcs_stretch.specs.ByScripts.{IsSafeByScripts, clocks_after}
use Rattle.mcs_stretch.specs.Stretch.{NothingArrivesBefore}
use Rattle.mcs_stretch.specs.laws.Orders.{opening_apart, after_turns, IsAsTheClock}

-- core c, at its clock, is at most at the horizon, and no signal that another core still makes on
-- the clock arrives there or earlier
pub record MayStepBySignals (system : System) (horizon : ℕ) (clocks : List ℕ) (c : ℕ) : Type 0 where
  pub known : c < system.cores
  pub in_time : slice_index clocks c ≤ horizon
  pub safe : NothingArrivesBefore system c (suc (slice_index clocks c)) clocks

-- each named core takes one turn
abbrev pub IsSafeBySignals : System → ℕ → List ℕ → List ℕ → Type 0
IsSafeBySignals system horizon clocks [] = Unit {0}
IsSafeBySignals system horizon clocks (c ∷ cs) =
    MayStepBySignals system horizon clocks c
    × IsSafeBySignals system horizon (slice_set clocks c (suc (slice_index clocks c))) cs

module _ (system : System) where
  -- an order that is safe by the scripts is safe by the signals
  abbrev pub ScriptOrdersAreBySignals : Type 0
  ScriptOrdersAreBySignals =
      (horizon : ℕ) (clocks cs : List ℕ) → IsSafeByScripts system horizon clocks cs
      → IsSafeBySignals system horizon clocks cs

  -- cores that take their turns in any such order are as the clock has them; once all have taken
  -- the turn at the horizon, their rows merge into the schedule
  abbrev pub SignalOrdersGiveTheSchedule : Type 0
  SignalOrdersGiveTheSchedule =
      (horizon : ℕ) (turns : List ℕ) → IsSafeBySignals system horizon (replicate system.cores 0) turns →
      let apart = after_turns system (opening_apart system) turns in
      (apart.clocks ≡ clocks_after (replicate system.cores 0) turns)
      × ((c : ℕ) → c < system.cores → IsAsTheClock system apart c)
      × (((c : ℕ) → c < system.cores → slice_index apart.clocks c ≡ suc horizon) →
      merged (map apart.rows (range_with_len 0 system.cores)) ≡ schedule system horizon)
