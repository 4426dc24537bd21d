-- Entries move to the front, one after another.
use Rattle.std.proofs.Common.{◌≡◌, ℕ, suc, ◌+◌, ◌<◌, ◌≤◌, List, length, get_or, set, take, Option, Some, None, refl, ap, ◌∙◌, inl, inr, arith}
use Rattle.std.proofs.lemmas.Bool.{cases_lt}
use Rattle.std.proofs.lemmas.Grind.{common_steps}
use Rattle.std.proofs.lemmas.List.{get_or_past}
use Rattle.mcs_release.specs.declared.dated.Dated.{Dated}
use Rattle.mcs_release.specs.stored.Places.{entered, AreEmptyFrom}
use Rattle.mcs_release.proofs.Entered.{entered-before, entered-moved, entered-filled}

-- after i of the places: their entries are in front
pub record IsClosing (start places : List (Option Dated)) (front i : ℕ) : Type 0 where
  pub kept : entered places ≡ entered start
  pub before : front ≤ i
  pub gap : (j : ℕ) → front ≤ j → j < i → get_or places j None ≡ None
  pub filled : front ≡ length (entered (take front places))

module _ (start places : List (Option Dated)) (front i : ℕ) (closing : IsClosing start places front i) where
  -- the next place is empty
  pub IsClosing-skip : get_or places i None ≡ None → IsClosing start places front (i + 1)
  IsClosing-skip none = record {
    kept = closing.kept;
    before = omega (arith, closing.before);
    gap = λ j from under. grind (arith, none, closing.gap j from);
    filled = closing.filled;
  }

  -- the entry of the next place moves
  pub IsClosing-move : (x : Dated) → i < length places → get_or places i None ≡ Some x →
      IsClosing start (set (set places i None) front (Some x)) (front + 1) (i + 1)
  IsClosing-move x below e = record {
    kept = entered-moved places i front x e closing.before closing.gap ∙ closing.kept;
    before = omega (arith, closing.before);
    gap = λ j from under. grind (arith, common_steps, closing.gap j);
    filled = omega (
      arith,
      closing.filled,
      entered-filled places i front x closing.before below,
      ap (λ (n : ℕ). length (entered (take n (set (set places i None) front (Some x))))) next,
    );
  }
    where
      next : suc front ≡ front + 1
      next = omega arith

  module _ (all : length places ≤ i) where
    pub AreEmptyFrom-closed : AreEmptyFrom front places
    AreEmptyFrom-closed j from = elim (cases_lt j i) [
      | inl below ↦ closing.gap j from below
      | inr above ↦ get_or_past places j None (omega arith)
    ]

    pub count-closed : front ≡ length (entered start)
    count-closed = closing.filled ∙ ap length (entered-before places front AreEmptyFrom-closed) ∙ ap length closing.kept

-- at the start
pub IsClosing-none : (start : List (Option Dated)) → IsClosing start start 0 0
IsClosing-none start = record {
  kept = refl;
  before = omega arith;
  gap = λ j from under. absurd (omega arith);
  filled = refl;
}
