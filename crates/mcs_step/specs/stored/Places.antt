-- The order of turns by moment, then core, and which of them comes first.
use Rattle.std.specs.Prelude.{◌≡◌, ℕ, ◌+◌, ◌*◌, ◌<◌, ◌≤◌, List, length, slice_index}
use Rattle.mcs_step.specs.declared.calendar.Place.{Place}

-- the place is the first at which a core is next busy
pub record IsFirst (next : List ℕ) (place : Place) : Type 0 where
  pub known : place.core < length next
  pub is : slice_index next place.core ≡ place.moment
  pub before : (c : ℕ) → c < place.core → place.moment < slice_index next c
  pub from : (c : ℕ) → place.core ≤ c → c < length next → place.moment ≤ slice_index next c

-- the soonest of the times of a group of eight cores
pub record IsSoonest (next : List ℕ) (group soonest : ℕ) : Type 0 where
  pub core : ℕ
  pub from : 8 * group ≤ core
  pub below : core < 8 * group + 8
  pub is : slice_index next core ≡ soonest
  pub least : (c : ℕ) → 8 * group ≤ c → c < 8 * group + 8 → soonest ≤ slice_index next c

-- the soonest times of the eight groups
pub record AreGrouped (next soonest : List ℕ) : Type 0 where
  pub next_of : length next ≡ 64
  pub soonest_of : length soonest ≡ 8
  pub each : (group : ℕ) → group < 8 → IsSoonest next group (slice_index soonest group)

-- the first core of a group with this time
pub record IsFirstOf (next : List ℕ) (group moment core : ℕ) : Type 0 where
  pub from : 8 * group ≤ core
  pub below : core < 8 * group + 8
  pub is : slice_index next core ≡ moment
  pub before : (c : ℕ) → 8 * group ≤ c → c < core → moment < slice_index next c
