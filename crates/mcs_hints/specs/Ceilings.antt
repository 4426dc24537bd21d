-- Servers that a thread calls at a priority that is not below theirs, so that they are no ceiling.
use Rattle.std.specs.Prelude.{ℕ, nat_le, if◌then◌else◌, List, [], ◌∷◌, Option, Some, None}
use Rattle.std.specs.Option.{option_or}
use Rattle.mcs_script.specs.declared.item.Item.{Item}
use Rattle.mcs_script.specs.declared.item.Item.TheVariants.{Enter}
use Rattle.mcs_script.specs.Script.{priority_after}
use Rattle.mcs_system.specs.System.{System, thread_part}
use Rattle.mcs_hints.specs.declared.hint.Hint.{Hint}
use Rattle.mcs_hints.specs.declared.hint.Hint.TheVariants.{Inverted}

-- the hint of an item that the thread runs at this priority
abbrev pub inverted_at : ℕ → ℕ → Item → Option Hint
inverted_at thread caller (Enter server priority) =
    if nat_le priority caller then Some (Inverted thread server priority caller) else None
inverted_at thread caller _ = None

-- the first such hint of these items, if the thread runs the first of them at this priority
abbrev pub first_inverted : ℕ → ℕ → List Item → Option Hint
first_inverted thread caller [] = None
first_inverted thread caller (item ∷ items) =
    option_or (inverted_at thread caller item) (first_inverted thread (priority_after (Some item) caller) items)

-- the first server that the thread calls at a priority that is not below the server's
abbrev pub inverted : System → ℕ → Option Hint
inverted system thread =
    let part = thread_part system thread in
    first_inverted thread part.priority part.script
