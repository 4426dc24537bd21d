-- The closed sets of cores, each once, and the cores that are reported with each. A set has a yes
-- or a no for each of 64 cores. Each core has the smallest set around it that no core outside
-- signals.
use Rattle.std.specs.Prelude.{ℕ, Bool, ◌&&◌, not, List, [], length, map, get_or}
use Rattle.std.specs.List.{filter, list_any, range_with_len}
use Rattle.mcs_ever.specs.Closed.{has}

module _ (sets : List (List Bool)) where
  -- whether the set of a core contains the other core
  abbrev pub set_has : ℕ → ℕ → Bool
  set_has core other = has (get_or sets core []) other

  -- whether two cores have the same set: each is in that of the other
  abbrev pub have_one_set : ℕ → ℕ → Bool
  have_one_set core other = set_has core other && set_has other core

  -- the cores that are reported with the set of this one: those that have the same set
  abbrev pub own_of : ℕ → List Bool
  own_of core = map (have_one_set core) (range_with_len 0 64)

  -- whether no core of a smaller number has the same set
  abbrev pub is_first : ℕ → Bool
  is_first core = not (list_any (have_one_set core) (range_with_len 0 core))

  -- the first core of each set
  abbrev pub firsts : List ℕ
  firsts = filter is_first (range_with_len 0 (length sets))
