-- The notifications of a well-formed system's signals are among its notifications.
use Rattle.std.proofs.Common.{◌≡◌, ℕ, zero, suc, ◌<◌, List, [], ◌∷◌, length, Some, inl, inr, subst}
use Rattle.std.specs.Prelude.{All}
use Rattle.std.specs.List.{slice_get}
use Rattle.std.proofs.lemmas.Bool.{cases_lt}
use Rattle.std.proofs.lemmas.List.{get_or_past}
use Rattle.std.proofs.lemmas.List.Elements.{All-head, All-tail}
use Rattle.mcs_script.specs.declared.item.Item.{Item}
use Rattle.mcs_script.specs.declared.item.Item.TheVariants.{Signal}
use Rattle.mcs_system.specs.System.{System, thread_part, no_thread, core_of}
use Rattle.mcs_system.specs.WellFormed.{IsWellFormed, IsItem}
use Rattle.mcs_core.proofs.Mails.{IsSaid}

module _ (system : System) where
  known-item : (core : ℕ) (item : Item) (note badge : ℕ) → IsItem system core item → Some item ≡ Some (Signal note badge) → note < length system.notes
  known-item core item note badge h e =
      let same : item ≡ Signal note badge = cc in
      let signal : IsItem system core (Signal note badge) = subst (IsItem system core) same h in
      signal.0

  known-at : (core : ℕ) (items : List Item) (i note badge : ℕ) → All (IsItem system core) items → slice_get items i ≡ Some (Signal note badge) → note < length system.notes
  known-at core [] i note badge h e = cc
  known-at core (item ∷ items) zero note badge h e = known-item core item note badge (All-head (IsItem system core) item items h) e
  known-at core (item ∷ items) (suc i) note badge h e = known-at core items i note badge (All-tail (IsItem system core) item items h) e

  -- a script says signals for notifications that there are
  pub known-said : IsWellFormed system → (note badge : ℕ) → IsSaid system note badge → note < length system.notes
  known-said well note badge said = elim (cases_lt said.thread (length system.threads)) [
    | inl l ↦
        known-at (core_of system (thread_part system said.thread)) (thread_part system said.thread).script said.place note badge (well.threads said.thread no_thread l).items said.item
    | inr l ↦ (let none = rw (get_or_past system.threads said.thread no_thread l) at said.item in cc)
  ]
