-- A merge that gives its rows while more are added.
use Rattle.std.specs.Prelude.{◌≡◌, ℕ, ◌<◌, ◌≤◌, min, List, [], ◌∷◌, ◌++◌, length, replicate}
use Rattle.std.specs.Prelude.{slice_set, slice_index, slice_index_or}
use Rattle.mcs_ticks.specs.declared.row.Row.{Row}
use Rattle.mcs_merge.specs.Merge.{merged_before, AreFrom, DoNotFall}

-- for each core the rows that are left, and its clock: rows that are added later are at this moment
-- or later
pub record Merging : Type 0 where
  pub left : List (List Row)
  pub clocks : List ℕ

-- no row is left, and each clock is 0
abbrev pub starting : ℕ → Merging
starting cores = record { left = replicate cores []; clocks = replicate cores 0 }

-- the list of a core
abbrev pub list_of : ℕ → List (List Row) → List Row
list_of core lists = slice_index_or lists core []

-- the minimum of the clocks
abbrev pub least_clock : List ℕ → ℕ
least_clock [] = 0
least_clock (clock ∷ []) = clock
least_clock (clock ∷ other ∷ clocks) = min clock (least_clock (other ∷ clocks))

-- the rows that are left before all clocks, by moment, core and place
abbrev pub passed : Merging → List Row
passed m = merged_before (least_clock m.clocks) m.left

-- the lists with these rows appended to those of this core
abbrev pub with_rows : ℕ → List Row → List (List Row) → List (List Row)
with_rows core rows lists = slice_set lists core (list_of core lists ++ rows)

-- the state with these rows appended, and this clock for their core
abbrev pub after_add : ℕ → List Row → ℕ → Merging → Merging
after_add core rows clock m =
    record { left = with_rows core rows m.left; clocks = slice_set m.clocks core clock }

-- the rows are of this core
abbrev pub AreOf : ℕ → List Row → Type 0
AreOf core [] = Unit {0}
AreOf core (row ∷ rows) = (row.core ≡ core) × AreOf core rows

-- each row is before this moment
abbrev pub AreBefore : ℕ → List Row → Type 0
AreBefore t [] = Unit {0}
AreBefore t (row ∷ rows) = (row.moment < t) × AreBefore t rows

-- rows of one core, in order of their moments, before its clock
pub record IsListOf (core : ℕ) (rows : List Row) (clock : ℕ) : Type 0 where
  pub of_core : AreOf core rows
  pub in_order : DoNotFall rows
  pub before : AreBefore clock rows

-- the rows that may be added: such rows of an existing core, from its clock on and before the new
-- clock
pub record CanAdd (core : ℕ) (rows : List Row) (clock : ℕ) (m : Merging) : Type 0 where
  pub is_core : core < length m.clocks
  pub no_earlier : slice_index m.clocks core ≤ clock
  pub from_clock : AreFrom (slice_index m.clocks core) rows
  pub is_list : IsListOf core rows clock

-- the list of each core is of that core, in order of the moments, and before its clock
pub record IsInOrder (m : Merging) : Type 0 where
  pub same : length m.clocks ≡ length m.left
  pub lists : (core : ℕ) → core < length m.left → IsListOf core (list_of core m.left) (slice_index m.clocks core)
