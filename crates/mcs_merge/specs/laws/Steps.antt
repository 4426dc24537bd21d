-- The effect of one call of a merger on the rows taken, compared with all added rows.
use Rattle.std.specs.Prelude.{◌≡◌, ℕ, ◌<◌, ◌≤◌, List, [], ◌++◌, length, replicate}
use Rattle.mcs_ticks.specs.declared.row.Row.{Row}
use Rattle.mcs_merge.specs.Merge.{rows_at, merged_before, merged, last_of_all}
use Rattle.mcs_merge.specs.Merging.{Merging, starting, list_of, least_clock, passed, with_rows, after_add, CanAdd, IsInOrder}
use Rattle.mcs_merge.specs.Parts.{poured}

-- these rows were taken from all these lists: together with those that all clocks have passed they
-- are the merge of all rows before the minimum clock; the rows of each core from the minimum clock
-- on are left
pub record HasTaken (all : List (List Row)) (taken : List Row) (m : Merging) : Type 0 where
  pub count : length all ≡ length m.left
  pub begun : taken ++ passed m ≡ merged_before (least_clock m.clocks) all
  pub later : (t core : ℕ) → least_clock m.clocks ≤ t → core < length m.left →
      rows_at t (list_of core m.left) ≡ rows_at t (list_of core all)

-- at the start no row was added and no row was taken
abbrev pub BeginsMerged : Type 0
BeginsMerged = (cores : ℕ) → IsInOrder (starting cores) × HasTaken (replicate cores []) [] (starting cores)

-- added rows extend the lists, and the taken rows stay ..
abbrev pub AddsMerged : Type 0
AddsMerged =
    (m : Merging) (all : List (List Row)) (taken : List Row) (core : ℕ) (rows : List Row) (clock : ℕ) →
    IsInOrder m → HasTaken all taken m → CanAdd core rows clock m →
    IsInOrder (after_add core rows clock m) × HasTaken (with_rows core rows all) taken (after_add core rows clock m)

-- .. and giving all rows before a moment that all clocks have passed appends them to the taken ones
abbrev pub PoursMerged : Type 0
PoursMerged =
    (m : Merging) (all : List (List Row)) (taken : List Row) (until : ℕ) →
    IsInOrder m → HasTaken all taken m → until ≤ least_clock m.clocks →
    IsInOrder (poured until m) × HasTaken all (taken ++ merged_before until m.left) (poured until m)

-- if the moment is the minimum clock, the rows taken then are the merge of all rows before it ..
abbrev pub PoursAll : Type 0
PoursAll =
    (m : Merging) (all : List (List Row)) (taken : List Row) →
    HasTaken all taken m → taken ++ merged_before (least_clock m.clocks) m.left ≡ merged_before (least_clock m.clocks) all

-- .. and the merge of all rows, if all clocks have passed each of them
abbrev pub EndsMerged : Type 0
EndsMerged =
    (m : Merging) (all : List (List Row)) (taken : List Row) →
    HasTaken all taken m → last_of_all all < least_clock m.clocks →
    taken ++ merged_before (least_clock m.clocks) m.left ≡ merged all
