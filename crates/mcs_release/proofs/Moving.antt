-- Entries move into the same places of others, one after another.
use Rattle.std.proofs.Common.{◌≡◌, ℕ, suc, ◌+◌, ◌<◌, List, [], ◌∷◌, ◌++◌, length, get_or, set, take, Option, Some, None, sym, ap, append-nil, ◌∙◌, arith, get_or-set_other, length-set}
use Rattle.mcs_release.specs.declared.dated.Dated.{Dated}
use Rattle.mcs_release.specs.stored.Places.{entered, AreEmptyFrom}
use Rattle.mcs_release.proofs.Entered.{entered-before, entered-next, entered-none, entered-push}

-- after i of the places: their entries are in the others, of which the later ones are empty
pub record IsMoving (from start to : List (Option Dated)) (i : ℕ) : Type 0 where
  pub kept : entered to ≡ entered (take i from)
  pub behind : AreEmptyFrom i to
  pub same : length to ≡ length start

pub IsMoving-none : (from start : List (Option Dated)) → AreEmptyFrom 0 start → IsMoving from start start 0
IsMoving-none from start empty = record {
  kept = entered-none start (λ i. empty i (omega arith));
  behind = empty;
  same = omega arith;
}

module _ (from start to : List (Option Dated)) (i : ℕ) (moving : IsMoving from start to i) where
  next : suc i ≡ i + 1
  next = omega arith

  module _ (below : i < length from) where
    -- the next place is empty
    pub IsMoving-skip : get_or from i None ≡ None → IsMoving from start to (i + 1)
    IsMoving-skip none = record {
      kept = moving.kept ∙ sym (append-nil (entered (take i from))) ∙ sym (entered-next from i None none below)
          ∙ ap (λ (n : ℕ). entered (take n from)) next;
      behind = λ k above. moving.behind k (omega arith);
      same = moving.same;
    }

    -- the entry of the next place moves
    pub IsMoving-put : (x : Dated) → i < length to → get_or from i None ≡ Some x → IsMoving from start (set to i (Some x)) (i + 1)
    IsMoving-put x within e = record {
      kept = entered-push to i x within moving.behind ∙ ap (λ (xs : List Dated). xs ++ x ∷ []) moving.kept
          ∙ sym (entered-next from i (Some x) e below) ∙ ap (λ (n : ℕ). entered (take n from)) next;
      behind = λ k above. get_or-set_other to i k (Some x) None (omega arith) ∙ moving.behind k (omega arith);
      same = length-set to i (Some x) ∙ moving.same;
    }

  -- all have moved
  pub entered-moving : AreEmptyFrom i from → entered to ≡ entered from
  entered-moving behind = moving.kept ∙ entered-before from i behind
