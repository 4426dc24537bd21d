-- Sets without a result.
use Rattle.std.specs.Prelude.{Bool, true, false, List, Option, Some, None}
use Rattle.std.specs.List.{list_any}
use Rattle.mcs_ever_told.specs.declared.outlook.told.Told.{Told}

abbrev pub is_left : Option Told → Bool
is_left None = true
is_left (Some told) = false

abbrev pub is_any_left : List (Option Told) → Bool
is_any_left told = list_any is_left told
