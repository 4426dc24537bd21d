-- The state of the search for hints: marks of notifications and of contexts, and utilisations.
use Rattle.std.specs.Prelude.{ℕ, Bool, true, ◌&&◌, ◌||◌, not, if◌then◌else◌, List, length, map, Option, Some, None}
use Rattle.std.specs.List.{list_any}
use Rattle.mcs_script.specs.declared.item.Item.{Item}
use Rattle.mcs_system.specs.declared.part.SourcePart.{SourcePart}
use Rattle.mcs_system.specs.declared.part.ThreadPart.{ThreadPart}
use Rattle.mcs_system.specs.System.{System}
use Rattle.mcs_hints.specs.declared.hint.Hint.{Hint}
use Rattle.mcs_hints.specs.declared.hint.Hint.TheVariants.{Unsignalled, Unbound}
use Rattle.mcs_hints.specs.declared.notes.Mark.{Mark}
use Rattle.mcs_hints.specs.Numbers.{numbers}
use Rattle.mcs_hints.specs.Notes.{waits_on, signals, interrupts}
use Rattle.mcs_hints.specs.Contexts.{is_bound, share_of}

-- whether one of these items waits on the notification, and whether one signals it
abbrev pub mark_of : List Item → ℕ → Mark
mark_of items note = record { waits = list_any (waits_on note) items; signals = list_any (signals note) items }

-- the marks of the first `notes` notifications
abbrev pub marks_of : ℕ → List Item → List Mark
marks_of notes items = map (mark_of items) (numbers notes)

-- and whether one of these sources interrupts on it
abbrev pub marked_of : List Item → List SourcePart → ℕ → Mark
marked_of items sources note =
    record { waits = list_any (waits_on note) items; signals = list_any (signals note) items || list_any (interrupts note) sources }

abbrev pub all_marks_of : ℕ → List Item → List SourcePart → List Mark
all_marks_of notes items sources = map (marked_of items sources) (numbers notes)

abbrev pub waits_with : Mark → Mark
waits_with mark = record { waits = true; signals = mark.signals }

abbrev pub signals_with : Mark → Mark
signals_with mark = record { waits = mark.waits; signals = true }

abbrev pub unsignalled_by : ℕ → Mark → Option Hint
unsignalled_by note mark = if mark.waits && not mark.signals then Some (Unsignalled note) else None

-- for each of the first `contexts` contexts, whether one of these threads is bound to it
abbrev pub bounds_of : ℕ → List ThreadPart → List Bool
bounds_of contexts threads = map (is_bound threads) (numbers contexts)

abbrev pub unbound_by : ℕ → Bool → Option Hint
unbound_by context bound = if bound then None else Some (Unbound context)

abbrev pub shares_of : System → List ℕ
shares_of system = map (share_of system) (numbers (length system.contexts))
