-- The contexts of a core as they are stored: each in a box, with room for its refills.
use Rattle.std.specs.Prelude.{◌≡◌, List, [], ◌∷◌, map, Option, Some, None, option_map}
use Rattle.std.specs.Global.{Box}
use Rattle.mcs_control.specs.Context.{Context, WithRoom}

-- a stored context
abbrev pub Kept : Type 0
Kept = Box WithRoom

abbrev pub unboxed : Option Kept → Option WithRoom
unboxed kept = option_map (λ box. box.value) kept

abbrev pub seen_contexts : List (Option Kept) → List (Option Context)
seen_contexts contexts = map (λ kept. option_map (λ own. own.context) (unboxed kept)) contexts

-- there is room for as many refills as any configuration may have
abbrev pub HasRoom : Option WithRoom → Type 0
HasRoom None = Unit {0}
HasRoom (Some kept) = kept.room ≡ 66

abbrev pub HaveRoom : List (Option Kept) → Type 0
HaveRoom [] = Unit {0}
HaveRoom (kept ∷ others) = HasRoom (unboxed kept) × HaveRoom others
