-- The next moment of each core, and a tree with their minimum at its root.
use Rattle.std.specs.Prelude.{◌≡◌, ℕ, ◌+◌, ◌-◌, ◌*◌, ◌^◌, ◌%◌, ◌<◌, nat_lt, if◌then◌else◌, List, Option, Some, None, length, slice_index_or}
use Rattle.mcs_merge.specs.declared.heads.Head.{Head}

-- a head after that of every core
abbrev pub far : Head
far = record { rank = 2 ^ 64 - 1 }

-- the head of a core with this next moment, or `far` if it has no row; heads are ordered by moment
-- and then by core, for at most 64 cores
abbrev pub head_of_next : ℕ → Option ℕ → Head
head_of_next core None = far
head_of_next core (Some moment) = record { rank = 64 * moment + core }

-- the core of the head
abbrev pub core_of : Head → ℕ
core_of head = head.rank % 64

-- the head at this index
abbrev pub head_at : ℕ → List Head → Head
head_at i heads = slice_index_or heads i far

-- the head that comes first
abbrev pub lesser : Head → Head → Head
lesser a b = if nat_lt b.rank a.rank then b else a

-- the first of the four heads below a node
abbrev pub least_below : ℕ → List Head → Head
least_below i nodes =
    lesser (lesser (lesser (head_at (4 * i + 1) nodes) (head_at (4 * i + 2) nodes)) (head_at (4 * i + 3) nodes)) (head_at (4 * i + 4) nodes)

-- a tree in one list: each of the first `inner` nodes is the first of the four below it; the other
-- nodes are the leaves
pub record IsTree (inner : ℕ) (nodes : List Head) : Type 0 where
  pub wide : length nodes ≡ 4 * inner + 1
  pub least : (i : ℕ) → i < inner → head_at i nodes ≡ least_below i nodes
