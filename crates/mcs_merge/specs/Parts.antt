-- The rows of each core that wait to be given, one moment at a time.
use Rattle.std.specs.Prelude.{◌≡◌, ℕ, ◌<◌, ◌++◌, nat_le, List, [], ◌∷◌, filter, length, map, Option, None, option_map, slice_get, slice_index_or}
use Rattle.mcs_ticks.specs.declared.row.Row.{Row}
use Rattle.mcs_merge.specs.Merging.{Merging, list_of}

-- the moment of the first row
abbrev pub first_moment : List Row → Option ℕ
first_moment rows = option_map (λ row. row.moment) (slice_get rows 0)

-- the rows from this moment on, in order
abbrev pub rows_from : ℕ → List Row → List Row
rows_from t rows = filter (λ row. nat_le t row.moment) rows

-- those of each list
abbrev pub all_from : ℕ → List (List Row) → List (List Row)
all_from t lists = map (rows_from t) lists

-- the state after all rows before a moment were given
abbrev pub poured : ℕ → Merging → Merging
poured until m = record m { left = all_from until m.left }

-- the first moment of parts in a line: that of the first part, since no part follows an empty one
abbrev pub first_of : {P : Type 0} → (P → Option ℕ) → List P → Option ℕ
first_of first [] = None
first_of first (part ∷ parts) = first part

-- the parts of a core
abbrev pub parts_of : {P : Type 0} → ℕ → List (List P) → List P
parts_of core cores = slice_index_or cores core []

-- parts that define which rows they hold for an output
module _ {O : Type 0} {P : Type 0} (holds : O → P → List Row → Type 0) where
  -- the parts, one after another, hold these rows
  abbrev pub Hold : O → List P → List Row → Type 0
  Hold out [] rows = rows ≡ []
  Hold out (part ∷ parts) rows =
      (first : List Row) × (rest : List Row) × (rows ≡ first ++ rest) × holds out part first × Hold out parts rest

  -- each part holds one list
  abbrev pub HoldEach : O → List P → List (List Row) → Type 0
  HoldEach out [] [] = Unit {0}
  HoldEach out [] (rows ∷ lists) = ⊥
  HoldEach out (part ∷ parts) [] = ⊥
  HoldEach out (part ∷ parts) (rows ∷ lists) = holds out part rows × HoldEach out parts lists

  -- the parts of each core hold the list of that core
  pub record AreHeld (out : O) (cores : List (List P)) (lists : List (List Row)) : Type 0 where
    pub same : length cores ≡ length lists
    pub each : (core : ℕ) → core < length lists → Hold out (parts_of core cores) (list_of core lists)
