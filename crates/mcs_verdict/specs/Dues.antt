-- The deadlines of all notifications, in one pass over the scripts.
use Rattle.std.specs.Prelude.{ℕ, suc, max, Bool, ◌==◌, if◌then◌else◌, List, [], ◌∷◌, Option, Some, None}
use Rattle.mcs_script.specs.declared.item.Item.{Item}
use Rattle.mcs_system.specs.declared.part.ThreadPart.{ThreadPart}
use Rattle.mcs_verdict.specs.declared.due.Due.{Due}
use Rattle.mcs_verdict.specs.declared.due.Due.TheVariants.{Within, Without}
use Rattle.mcs_verdict.specs.Takers.{waits_on}

-- after a wait with which a script begins
abbrev pub due_greater : ℕ → Due → ℕ
due_greater deadline (Within greatest) = max greatest deadline
due_greater deadline _ = deadline

abbrev pub due_first : ℕ → Due → Due
due_first deadline Without = Without
due_first deadline due = if deadline == 0 then Without else Within (due_greater deadline due)

-- after a wait
abbrev pub due_wait : Bool → ℕ → Due → Due
due_wait first deadline due = if first then due_first deadline due else Without

-- after an item; `first` is whether it is the first of its script
abbrev pub due_item : ℕ → Bool → ℕ → Item → Due → Due
due_item note first deadline item due = if waits_on note item then due_wait first deadline due else due

-- after these items, from number i on
abbrev pub due_items : ℕ → ℕ → ℕ → List Item → Due → Due
due_items note i deadline [] due = due
due_items note i deadline (item ∷ items) due = due_items note (suc i) deadline items (due_item note (i == 0) deadline item due)

abbrev pub due_part : ℕ → ThreadPart → Due → Due
due_part note part due = due_items note 0 part.deadline part.script due

abbrev pub due_parts : ℕ → List ThreadPart → Due → Due
due_parts note [] due = due
due_parts note (part ∷ parts) due = due_parts note parts (due_part note part due)

-- each by its number, from n on
abbrev pub each_due : ℕ → (ℕ → Due → Due) → List Due → List Due
each_due n step [] = []
each_due n step (due ∷ dues) = step n due ∷ each_due (suc n) step dues

-- the deadline, if there is one
abbrev pub known_due : Due → Option ℕ
known_due (Within greatest) = Some greatest
known_due _ = None
