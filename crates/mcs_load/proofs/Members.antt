-- The data of a list of values.
use Rattle.std.proofs.Common.{◌≡◌, suc, List, [], ◌∷◌, length, refl, ap}
use Rattle.toml.specs.declared.value.Value.{Value}
use Rattle.toml.specs.View.{items_view}
use Rattle.mcs_load.specs.Words.{item_count}

pub item_count_view : (values : List Value) → item_count (items_view values) ≡ length values
item_count_view [] = refl
item_count_view (v ∷ vs) = ap suc (item_count_view vs)
