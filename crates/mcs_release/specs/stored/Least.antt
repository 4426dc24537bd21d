-- A tree of minima over places: each inner node is the minimum of its four children, so the root is
-- the minimum of all.
use Rattle.std.specs.Prelude.{◌≡◌, ℕ, ◌+◌, ◌-◌, ◌*◌, ◌^◌, ◌<◌, ◌≤◌, min, drop, List, [], ◌∷◌, length, slice_index_or}

-- the number of an empty place
abbrev pub empty : ℕ
empty = 2 ^ 64 - 1

-- the numbers of the places, after the three unused nodes and the inner nodes
abbrev pub leaves : ℕ → List ℕ → List ℕ
leaves inner nodes = drop (inner + 3) nodes

-- their minimum
abbrev pub least : List ℕ → ℕ
least [] = empty
least (x ∷ xs) = min x (least xs)

-- the minimum of the four children of an inner node; the first inner node is node 3
abbrev pub least_child : List ℕ → ℕ → ℕ
least_child nodes node =
    min (min (slice_index_or nodes (4 * node - 8) empty) (slice_index_or nodes (4 * node - 7) empty))
    (min (slice_index_or nodes (4 * node - 6) empty) (slice_index_or nodes (4 * node - 5) empty))

-- a tree with `inner` inner nodes
pub record IsLeast (inner : ℕ) (nodes : List ℕ) : Type 0 where
  pub size : length nodes ≡ 4 * inner + 4
  pub each : (node : ℕ) → 3 ≤ node → node < inner + 3 → slice_index_or nodes node empty ≡ least_child nodes node
