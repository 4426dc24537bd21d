-- The threads that may take a word of a notification, and its deadline.
use Rattle.std.specs.Prelude.{ℕ, max, Bool, true, false, ◌==◌, ◌&&◌, not, if◌then◌else◌, List, [], ◌∷◌, filter, Option, Some, None}
use Rattle.std.specs.List.{list_all, list_any}
use Rattle.mcs_script.specs.declared.item.Item.{Item}
use Rattle.mcs_script.specs.declared.item.Item.TheVariants.{Wait}
use Rattle.mcs_system.specs.declared.part.ThreadPart.{ThreadPart}

-- whether this is the notification for which a thread waits first
abbrev pub waits_for : ℕ → Option ℕ → Bool
waits_for note None = false
waits_for note (Some first) = first == note

abbrev pub waits_on : ℕ → Item → Bool
waits_on note (Wait x) = x == note
waits_on note _ = false

-- each wait for the notification is the script's first item
abbrev pub waits_first_alone : ℕ → List Item → Bool
waits_first_alone note [] = true
waits_first_alone note (first ∷ items) = not (list_any (waits_on note) items)

-- the threads that may take a word of the notification
abbrev pub takers : ℕ → List ThreadPart → List ThreadPart
takers note threads = filter (λ part. list_any (waits_on note) part.script) threads

-- a word that the thread takes begins a round that has a deadline
abbrev pub begins_with_deadline : ℕ → ThreadPart → Bool
begins_with_deadline note part = not (part.deadline == 0) && waits_first_alone note part.script

abbrev pub greatest : List ThreadPart → ℕ
greatest [] = 0
greatest (part ∷ parts) = max part.deadline (greatest parts)

abbrev pub due_by : ℕ → List ThreadPart → Option ℕ
due_by note [] = None
due_by note (part ∷ parts) = if list_all (begins_with_deadline note) (part ∷ parts) then Some (greatest (part ∷ parts)) else None

-- the greatest deadline of those that may take a word of the notification, if whoever takes one has a deadline
abbrev pub due_of : ℕ → List ThreadPart → Option ℕ
due_of note threads = due_by note (takers note threads)
