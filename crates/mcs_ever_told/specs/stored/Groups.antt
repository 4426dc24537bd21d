-- The closed sets, each with the cores that are reported with it.
use Rattle.std.specs.Prelude.{ℕ, Bool, List, [], get_or, map}
use Rattle.mcs_ever_told.specs.Sets.{own_of, firsts}
use Rattle.mcs_ever_told.specs.declared.outlook.sets.Group.{Group}

abbrev pub group_of : List (List Bool) → ℕ → Group
group_of sets core = record { set = get_or sets core []; own = own_of sets core }

abbrev pub groups_of : List (List Bool) → List Group
groups_of sets = map (group_of sets) (firsts sets)
