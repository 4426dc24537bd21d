-- A list of at most one item.
use Rattle.std.specs.Prelude.{List, [], ◌∷◌, Option, Some, None}

abbrev pub if_some : {T : Type 0} → Option T → List T
if_some None = []
if_some (Some x) = x ∷ []
