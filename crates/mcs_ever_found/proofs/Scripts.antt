-- The notification for which a script waits first is one of the thread's core.
use Rattle.std.proofs.Common.{◌≡◌, ℕ, ◌<◌, false, List, [], ◌∷◌, length, subst, slice_get, Some}
use Rattle.std.specs.Prelude.{All}
use Rattle.std.proofs.lemmas.List.Elements.{All-head}
use Rattle.mcs_script.specs.declared.item.Item.{Item}
use Rattle.mcs_script.specs.declared.item.Item.TheVariants.{Compute, Signal, Wait, Yield, On, Spin, Enter, Leave}
use Rattle.mcs_system.specs.System.{System, note_part, is_server}
use Rattle.mcs_system.specs.WellFormed.{IsItem}
use Rattle.mcs_verdict.specs.Calls.{waited_on}

module _ (system : System) where
  pub waits-first : (core : ℕ) (items : List Item) (note : ℕ) → All (IsItem system core) items → waited_on (slice_get items 0) ≡ Some note → (note < length system.notes) × ((note_part system note).core ≡ core) × (is_server system note ≡ false)
  waits-first core [] note h e = cc
  waits-first core (Compute ticks ∷ items) note h e = cc
  waits-first core (Signal other badge ∷ items) note h e = cc
  waits-first core (Yield ∷ items) note h e = cc
  waits-first core (On badges ∷ items) note h e = cc
  waits-first core (Spin ∷ items) note h e = cc
  waits-first core (Enter server priority ∷ items) note h e = cc
  waits-first core (Leave server priority ∷ items) note h e = cc
  waits-first core (Wait other ∷ items) note h e =
      let same : other ≡ note = cc in
      let P : ℕ → Type 0 = λ n. (n < length system.notes) × ((note_part system n).core ≡ core) × (is_server system n ≡ false) in
      let there = All-head (IsItem system core) (Wait other) items h in
      subst P same (there.0, there.1, there.2)
