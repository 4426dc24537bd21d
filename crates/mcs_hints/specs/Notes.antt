-- Notifications that a script waits on, and that neither a script nor a source signals.
use Rattle.std.specs.Prelude.{ℕ, Bool, false, ◌==◌, ◌&&◌, ◌||◌, not, if◌then◌else◌, List, Option, Some, None}
use Rattle.std.specs.List.{flat_map, list_any}
use Rattle.mcs_script.specs.declared.item.Item.{Item}
use Rattle.mcs_script.specs.declared.item.Item.TheVariants.{Wait, Signal}
use Rattle.mcs_system.specs.declared.part.SourcePart.{SourcePart}
use Rattle.mcs_system.specs.declared.part.ThreadPart.{ThreadPart}
use Rattle.mcs_hints.specs.declared.hint.Hint.{Hint}
use Rattle.mcs_hints.specs.declared.hint.Hint.TheVariants.{Unsignalled}

-- all items of all scripts
abbrev pub items_of : List ThreadPart → List Item
items_of threads = flat_map (λ thread. thread.script) threads

abbrev pub waits_on : ℕ → Item → Bool
waits_on note (Wait x) = x == note
waits_on note _ = false

abbrev pub signals : ℕ → Item → Bool
signals note (Signal x badge) = x == note
signals note _ = false

abbrev pub interrupts : ℕ → SourcePart → Bool
interrupts note source = source.note == note

-- an item waits on the notification, and neither an item nor a source signals it
abbrev pub is_unsignalled : List Item → List SourcePart → ℕ → Bool
is_unsignalled items sources note =
    list_any (waits_on note) items && not (list_any (signals note) items || list_any (interrupts note) sources)

abbrev pub unsignalled : List Item → List SourcePart → ℕ → Option Hint
unsignalled items sources note = if is_unsignalled items sources note then Some (Unsignalled note) else None
