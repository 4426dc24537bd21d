-- The cores whose next moment is one of a few moments, as bits of a number for each moment.
use Rattle.std.specs.Prelude.{◌≡◌, ℕ, ◌+◌, ◌-◌, ◌<◌, ◌≤◌, ◌==◌, ◌&&◌, min, nat_lt, nat_le, replicate, if◌then◌else◌, Bool, true, false, List, slice_index, Option, Some, None, IfSome}
use Rattle.std.specs.Int.{bit_at}
use Rattle.mcs_merge.specs.Parts.{first_of, parts_of}

-- a sweep: for each of a few moments, from `start` on, the cores whose next moment it is; the index
-- that the sweep has reached; and the moment before which it ends
pub record Sweep : Type 0 where
  pub sets : List ℕ
  pub start : ℕ
  pub at : ℕ
  pub end : ℕ

-- a sweep from `start` on and before `until`, without cores
abbrev pub no_sweep : ℕ → ℕ → Sweep
no_sweep start until = record { sets = replicate 256 0; start = start; at = 0; end = min until (start + 256) }

-- its index is in range, and there is a set for each moment before its end
pub record IsSweep (start at end : ℕ) : Type 0 where
  pub within : at < 256
  pub few : end ≤ start + 256

-- whether the core is in the set at this index: its bit is 1
abbrev pub has : List ℕ → ℕ → ℕ → Bool
has sets place core = bit_at (slice_index sets place) core == 1

-- the lowest core of a set
abbrev pub IsLowest : ℕ → ℕ → Type 0
IsLowest bits core = (core < 64) × (bit_at bits core ≡ 1) × ((d : ℕ) → d < core → bit_at bits d ≡ 0)

-- whether this next moment is the one at this index, and the sweep still reaches it
abbrev pub is_at : Sweep → Option ℕ → ℕ → Bool
is_at sweep None place = false
is_at sweep (Some t) place = nat_lt t sweep.end && (nat_le (sweep.start + sweep.at) t && place == t - sweep.start)

-- a core is added at its next moment, if the sweep still reaches that
pub record IsPut (before : Sweep) (core : ℕ) (next : Option ℕ) (after : Sweep) : Type 0 where
  pub same : (after.start ≡ before.start) × (after.at ≡ before.at) × (after.end ≡ before.end)
  pub sets : (place d : ℕ) → d < 64 →
      has after.sets place d ≡ (if d == core && is_at before next place then true else has before.sets place d)

-- a core is taken out: the lowest one of the first moment whose set is not empty
pub record IsTaken (before : Sweep) (core : ℕ) (after : Sweep) : Type 0 where
  pub same : (after.start ≡ before.start) × (after.end ≡ before.end)
  pub later : before.at ≤ after.at
  pub few : core < 64
  pub was : has before.sets after.at core ≡ true
  pub none : (place d : ℕ) → before.at ≤ place → place < after.at → has before.sets place d ≡ false
  pub lower : (d : ℕ) → d < core → has before.sets after.at d ≡ false
  pub sets : (place d : ℕ) → d < 64 →
      has after.sets place d ≡ (if d == core && place == after.at then false else has before.sets place d)

-- each of these cores is in the set of the first moment of its parts, if that is before the end,
-- and in no other; the sweep has not passed that moment
pub record IsSwept {P : Type 0} (first : P → Option ℕ) (cores : List (List P)) (which : ℕ → Type 0) (sweep : Sweep) : Type 0 where
  pub marked : (place d : ℕ) → d < 64 → has sweep.sets place d ≡ true →
      which d × (sweep.start + place < sweep.end) × (first_of first (parts_of d cores) ≡ Some (sweep.start + place))
  pub placed : (d : ℕ) → which d → IfSome (first_of first (parts_of d cores)) (λ t.
      t < sweep.end → (sweep.start + sweep.at ≤ t) × (has sweep.sets (t - sweep.start) d ≡ true))
