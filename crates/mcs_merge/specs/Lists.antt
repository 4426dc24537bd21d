-- Lists of rows as contracts see them.
use Rattle.std.specs.Prelude.{List, map, Vec}
use Rattle.std.specs.declared.alloc.Global.{Global}
use Rattle.mcs_ticks.specs.declared.row.Row.{Row}

-- the rows of each list
abbrev pub rows_of_lists : List (Vec Row Global) → List (List Row)
rows_of_lists lists = map (λ rows. rows.items) lists
