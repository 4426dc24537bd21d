-- The rows that a merger gives over all its calls, and the merge of whole lists.
use Rattle.std.specs.Prelude.{◌≡◌, ℕ, ◌≤◌, List, [], ◌∷◌, ◌++◌, replicate}
use Rattle.mcs_ticks.specs.declared.row.Row.{Row}
use Rattle.mcs_merge.specs.Merge.{merged_before, merged}
use Rattle.mcs_merge.specs.Merging.{Merging, starting, least_clock, passed, with_rows, after_add, CanAdd}
use Rattle.mcs_merge.specs.Parts.{poured}

-- a call: rows of a core are added, with its new clock, or all rows before a moment are given
pub data Call : Type 0 where
  Add : (core : ℕ) (rows : List Row) (clock : ℕ) → Call
  Pour : (until : ℕ) → Call

-- the state after the calls
abbrev pub after : List Call → Merging → Merging
after [] m = m
after (Add core rows clock ∷ calls) m = after calls (after_add core rows clock m)
after (Pour until ∷ calls) m = after calls (poured until m)

-- the rows that the calls give, in order
abbrev pub taken : List Call → Merging → List Row
taken [] m = []
taken (Add core rows clock ∷ calls) m = taken calls (after_add core rows clock m)
taken (Pour until ∷ calls) m = merged_before until m.left ++ taken calls (poured until m)

-- these lists with all rows that the calls add to them
abbrev pub added : List Call → List (List Row) → List (List Row)
added [] lists = lists
added (Add core rows clock ∷ calls) lists = added calls (with_rows core rows lists)
added (Pour until ∷ calls) lists = added calls lists

-- each call adds rows that may be added at that point, or gives rows before a moment that all
-- clocks have passed
abbrev pub MayBeMade : List Call → Merging → Type 0
MayBeMade [] m = Unit {0}
MayBeMade (Add core rows clock ∷ calls) m = CanAdd core rows clock m × MayBeMade calls (after_add core rows clock m)
MayBeMade (Pour until ∷ calls) m = (until ≤ least_clock m.clocks) × MayBeMade calls (poured until m)

-- the lists of all rows that the calls add, by core
abbrev pub all_added : ℕ → List Call → List (List Row)
all_added cores calls = added calls (replicate cores [])

-- the rows given so far and then those that all clocks have passed are the merge of all rows before
-- the minimum clock
abbrev pub TakesMerged : Type 0
TakesMerged =
    (cores : ℕ) (calls : List Call) → MayBeMade calls (starting cores) →
    taken calls (starting cores) ++ passed (after calls (starting cores))
    ≡ merged_before (least_clock (after calls (starting cores)).clocks) (all_added cores calls)

-- for any later calls, the merge of all rows begins with the rows given so far
abbrev pub TakesPrefix : Type 0
TakesPrefix =
    (cores : ℕ) (calls later : List Call) → MayBeMade (calls ++ later) (starting cores) →
    (rest : List Row) × (merged (all_added cores (calls ++ later)) ≡ taken calls (starting cores) ++ rest)
