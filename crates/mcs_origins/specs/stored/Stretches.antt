-- The origins of a set, as it is kept: as stretches, of which the latest comes last.
use Rattle.std.specs.Prelude.{ℕ, zero, suc, ◌+◌, ◌-◌, ◌<◌, ◌≤◌, ◌≡◌, ◌&&◌, Bool, nat_le, Option, Some, None, List, [], ◌∷◌, ◌++◌, length, take}
use Rattle.mcs_origins.specs.declared.mark.Mark.{Mark}
use Rattle.mcs_origins.specs.declared.stretch.Stretch.{Stretch}
use Rattle.mcs_origins.specs.declared.joining.Both.{Both}
use Rattle.mcs_origins.specs.declared.rests.Rest.{Rest}
use Rattle.mcs_origins.specs.declared.set.Marks.{Marks}
use Rattle.mcs_origins.specs.declared.set.Marks.TheVariants.{Empty, One, Many}
use Rattle.mcs_origins.specs.Sets.{join}

-- so many origins, the latest first, each of them a step before the next
abbrev pub run : ℕ → ℕ → ℕ → ℕ → List Mark
run last step zero places = []
run last step (suc many) places = record { origin = last; places = places } ∷ run (last - step) step many places

abbrev pub all_of : Stretch → List Mark
all_of stretch = run stretch.last stretch.step (suc stretch.more) stretch.places

-- the origins of a list of stretches, the latest first: its last stretch is the latest one
abbrev pub flat : List Stretch → List Mark
flat [] = []
flat (stretch ∷ later) = flat later ++ all_of stretch

abbrev left_of : List Stretch → ℕ → Stretch → List Mark
left_of stretches zero top = []
left_of stretches (suc many) top = all_of top ++ flat (take many stretches)

-- the origins of the rest of a list of stretches: those of its top, and those of the stretches below
abbrev pub left : List Stretch → Rest → List Mark
left stretches rest = left_of stretches rest.many rest.top

-- the origins of a stretch, or none if there is no stretch
abbrev pub maybe : Option Stretch → List Mark
maybe None = []
maybe (Some stretch) = all_of stretch

-- whether a moment is between two others
abbrev pub is_between : ℕ → ℕ → ℕ → Bool
is_between first last moment = nat_le first moment && nat_le moment last

-- the origins that a step takes off two sets that are joined, and what it leaves of both
pub record IsNext (set others : List Stretch) (before : Both) (piece : Stretch) (after : Both) : Type 0 where
  pub joined : join (left set before.set) (left others before.others) ≡ all_of piece ++ join (left set after.set) (left others after.others)
  pub set_within : after.set.many ≤ length set
  pub others_within : after.others.many ≤ length others
  pub smaller : length (left set after.set) + length (left others after.others) < length (left set before.set) + length (left others before.others)

abbrev pub marks_of : Marks → List Mark
marks_of Empty = []
marks_of (One stretch) = all_of stretch
marks_of (Many stretches) = flat stretches.items
