-- The recurrences of groups, after one more is set.
use Rattle.std.proofs.Common.{◌≡◌, ◌≢◌, ℕ, ◌<◌, inl, inr, Bool, false, List, [], length, get_or, set, Option, Some, None, refl, sym, ap, subst, ◌∙◌, arith}
use Rattle.std.specs.Prelude.{IfSome, is_some}
use Rattle.std.proofs.lemmas.Bool.Decides.{eqb_tells}
use Rattle.std.proofs.lemmas.List.{get_or-set_same, get_or-set_other, length-set}
use Rattle.mcs_system.specs.System.{System}
use Rattle.mcs_ever_search.specs.Repeats.{IsToldOf, AreTold}
use Rattle.mcs_ever_search.specs.declared.repeats.Repeats.{Repeats}

module _ (system : System) (horizon : ℕ) (groups : List (List Bool)) where
  pub told-set : (told : List (Option Repeats)) (i : ℕ) (x : Option Repeats) → i < length groups → IsToldOf system horizon (get_or groups i []) x →
      AreTold system horizon groups told → AreTold system horizon groups (set told i x)
  told-set told i x l is are = record {
    many = length-set told i x ∙ are.many;
    each = λ j known. elim (eqb_tells j i) [
      | inl e ↦
          let P : ℕ → Type 0 = λ k. IsToldOf system horizon (get_or groups k []) (get_or (set told i x) k None) in
          let Q : Option Repeats → Type 0 = λ told. IsToldOf system horizon (get_or groups i []) told in
          subst P (sym e.1) (subst Q (sym (get_or-set_same told i x None (omega (arith, l, are.many)))) is)
      | inr e ↦
          let Q : Option Repeats → Type 0 = λ told. IsToldOf system horizon (get_or groups j []) told in
          subst Q (sym (get_or-set_other told i j x None e.1)) (are.each j known)
    ];
  }

pub not-some : (told : Option Repeats) → is_some told ≡ false → told ≡ None
not-some None e = refl
not-some (Some repeats) e = cc

pub none-from : (P : Repeats → Type 0) (told : Option Repeats) → told ≡ None → IfSome told P
none-from P None e = tt
none-from P (Some repeats) e = cc

module _ (before told : List (Option Repeats)) (i : ℕ) (x : Option Repeats) (none : get_or told i None ≡ None) where
  pub stays-set : ((j : ℕ) → get_or before j None ≢ None → get_or told j None ≡ get_or before j None) →
      (j : ℕ) → get_or before j None ≢ None → get_or (set told i x) j None ≡ get_or before j None
  stays-set stays j some =
      elim (eqb_tells j i) [
        | inl e ↦ absurd (some (sym (stays j some) ∙ ap (λ (k : ℕ). get_or told k None) e.1 ∙ none))
        | inr e ↦ get_or-set_other told i j x None e.1 ∙ stays j some
      ]

  pub from-set : (P : Repeats → Type 0) → i < length told → IfSome x P →
      ((j : ℕ) → get_or before j None ≡ None → IfSome (get_or told j None) P) →
      (j : ℕ) → get_or before j None ≡ None → IfSome (get_or (set told i x) j None) P
  from-set P l here from j empty =
      elim (eqb_tells j i) [
        | inl e ↦
            let Q : ℕ → Type 0 = λ k. IfSome (get_or (set told i x) k None) P in
            let R : Option Repeats → Type 0 = λ told. IfSome told P in
            subst Q (sym e.1) (subst R (sym (get_or-set_same told i x None l)) here)
        | inr e ↦
            let R : Option Repeats → Type 0 = λ told. IfSome told P in
            subst R (sym (get_or-set_other told i j x None e.1)) (from j empty)
      ]
