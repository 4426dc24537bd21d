-- Progress of the cores of a system: each core has its own clock, the time of its next turn.
use Rattle.std.specs.Prelude.{◌≡◌, ◌≢◌, ◌⊎◌, ℕ, suc, ◌+◌, ◌<◌, ◌≤◌, Bool, true, false, List, [], ◌∷◌, map, max, replicate, slice_index, slice_set}
use Rattle.mcs_system.specs.System.{System, delay_between}
use Rattle.mcs_window.specs.declared.fault.StepFault.{StepFault}
use Rattle.mcs_window.specs.declared.fault.StepFault.TheVariants.{Ended, NotSafe, NoMemory}
use Rattle.mcs_stretch.specs.Safe.{MayStep, IsSafe}

-- `taken`: the clock of each core when its rows were last taken; `failed`: memory ran out for a
-- step
pub record Progress : Type 0 where
  pub system : System
  pub horizon : ℕ
  pub clocks : List ℕ
  pub taken : List ℕ
  pub failed : Bool

abbrev pub clock_of : Progress → ℕ → ℕ
clock_of progress c = slice_index progress.clocks c

abbrev pub taken_of : Progress → ℕ → ℕ
taken_of progress c = slice_index progress.taken c

abbrev pub opening_progress : System → ℕ → Progress
opening_progress system horizon =
    record {
      system = system;
      horizon = horizon;
      clocks = replicate system.cores 0;
      taken = replicate system.cores 0;
      failed = false;
    }

-- core c moves to a later moment, or takes the turn at its clock
abbrev pub advanced : Progress → ℕ → ℕ → Progress
advanced progress c to = record progress { clocks = slice_set progress.clocks c to }

abbrev pub stepped : Progress → ℕ → Progress
stepped progress c = advanced progress c (suc (clock_of progress c))

-- all earlier clocks are set to the moment
abbrev pub skipped : Progress → ℕ → Progress
skipped progress moment = record progress { clocks = map (λ clock. max clock moment) progress.clocks }

-- the rows of core c are taken
abbrev pub with_taken : Progress → ℕ → Progress
with_taken progress c = record progress { taken = slice_set progress.taken c (clock_of progress c) }

-- memory ran out for a step
abbrev pub with_failed : Progress → Progress
with_failed progress = record progress { failed = true }

-- a signal that core b still makes could reach core c at its clock
pub record IsBehind (progress : Progress) (c b : ℕ) : Type 0 where
  pub known : b < progress.system.cores
  pub other : b ≢ c
  pub reaches : clock_of progress b + delay_between progress.system b c ≤ clock_of progress c

-- core b is the first that is behind
pub record IsFirstBehind (progress : Progress) (c b : ℕ) : Type 0 where
  pub behind : IsBehind progress c b
  pub first : (d : ℕ) → d < b → ¬ IsBehind progress c d

-- core c may step, and memory never ran out
pub record IsReady (progress : Progress) (c : ℕ) : Type 0 where
  pub whole : progress.failed ≡ false
  pub may : MayStep progress.system progress.horizon progress.clocks c

-- the condition of each fault of a step, in the order of the checks; after one `NoMemory` every
-- step is refused with it
abbrev pub IsFault : Progress → ℕ → StepFault → Type 0
IsFault progress c Ended = (progress.failed ≡ false) × (clock_of progress c ≡ progress.horizon + 1)
IsFault progress c (NotSafe b) =
    (progress.failed ≡ false) × (clock_of progress c ≤ progress.horizon) × IsFirstBehind progress c b
IsFault progress c NoMemory = (progress.failed ≡ true) ⊎ IsReady progress c

-- only a failed allocation changes anything
abbrev pub after_fault : StepFault → Progress → Progress
after_fault Ended progress = progress
after_fault (NotSafe b) progress = progress
after_fault NoMemory progress = with_failed progress

-- the cores of the list take one turn each, in its order
abbrev pub TakeTurns : Progress → List ℕ → Type 0
TakeTurns progress [] = Unit {0}
TakeTurns progress (c ∷ cs) = IsReady progress c × TakeTurns (stepped progress c) cs

-- such a list is a safe order
abbrev pub TurnsAreSafe : Type 0
TurnsAreSafe =
    (progress : Progress) (cs : List ℕ) → TakeTurns progress cs
    → IsSafe progress.system progress.horizon progress.clocks cs

-- a core with the minimum clock may step, unless it has taken its turn at the horizon
abbrev pub TheLeastMayStep : System → Type 0
TheLeastMayStep system =
    (horizon : ℕ) (clocks : List ℕ) (c : ℕ) → c < system.cores → slice_index clocks c ≤ horizon →
    ((b : ℕ) → b < system.cores → slice_index clocks c ≤ slice_index clocks b) → MayStep system horizon clocks c
