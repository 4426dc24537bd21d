-- Cores that are later, each by its own lags, core by core.
use Rattle.std.proofs.Common.{◌≡◌, ℕ, ◌+◌, ◌<◌, ◌≤◌, inl, inr, Bool, List, [], ◌∷◌, ◌++◌, length, get_or, Option, None, refl, sym, ap, subst, ◌∙◌, length-append, arith}
use Rattle.std.proofs.lemmas.Bool.{cases_lt}
use Rattle.std.proofs.lemmas.List.{get_or_append_left, get_or_past}
use Rattle.std.proofs.Math.Seq.{get_or-append_seam}
use borrow.Author.Count.{below_more}
use Rattle.mcs_system.specs.System.{System}
use Rattle.mcs_core.specs.Core.{Core}
use Rattle.mcs_ever.specs.Later.{IsShift}
use Rattle.mcs_ever.specs.Closed.{has}
use Rattle.mcs_ever_again.specs.declared.image.lags.Lags.{Lags}
use Rattle.mcs_ever_again.specs.Lags.{shift_by}
use Rattle.mcs_ever_again.specs.Told.{no_lags, lags_or_none, lags_of, shift_told, IsAgain, AreAgain, GroupIsAgain}

lags-kept : (lags : List (Option Lags)) (x : Option Lags) (core : ℕ) → core < length lags → lags_of lags core ≡ lags_of (lags ++ x ∷ []) core
lags-kept lags x core within = ap lags_or_none (sym (get_or_append_left lags (x ∷ []) None core within))

lags-last : (lags : List (Option Lags)) (x : Option Lags) (core : ℕ) → length lags ≡ core → lags_or_none x ≡ lags_of (lags ++ x ∷ []) core
lags-last lags x core many =
    ap lags_or_none (sym (get_or-append_seam lags x [] None) ∙ ap (λ n. get_or (lags ++ x ∷ []) n None) many)

pub length-more : (lags : List (Option Lags)) (x : Option Lags) (n : ℕ) → length lags ≡ n → length (lags ++ x ∷ []) ≡ n + 1
length-more lags x n many = omega (arith, length-append lags (x ∷ []), many)

-- without lags all is as late as the core
pub none-shift : (system : System) (by : ℕ) → IsShift system (shift_by by no_lags)
none-shift system by = record { lags = λ context. at-most by; endless = λ thread. inl refl }
  where
    at-most : (n : ℕ) → n ≤ n
    at-most n = omega arith

module _ (system : System) (by : ℕ) (group : List Bool) (before after : List Core) where
  pub again-more : (lags : List (Option Lags)) (x : Option Lags) (n : ℕ) → length lags ≡ n → AreAgain system by group before after lags n →
      ((past : Core) → IsAgain system by (has group n) (get_or before n past) (get_or after n past) (lags_or_none x)) →
      AreAgain system by group before after (lags ++ x ∷ []) (n + 1)
  again-more lags x n many below here past =
      below_more (λ core. IsAgain system by (has group core) (get_or before core past) (get_or after core past) (lags_of (lags ++ x ∷ []) core)) n
      (λ core l.
      subst (λ (told : Lags). IsAgain system by (has group core) (get_or before core past) (get_or after core past) told)
      (lags-kept lags x core (omega (arith, l, many))) (below past core l))
      (subst (λ (told : Lags). IsAgain system by (has group n) (get_or before n past) (get_or after n past) told) (lags-last lags x n many) (here past))

  pub all-shifts : (lags : List (Option Lags)) (past : Core) → GroupIsAgain system by group before after lags → (core : ℕ) →
      IsShift system (shift_told by lags core)
  all-shifts lags past told core =
      elim (cases_lt core (length before)) [
        | inl l ↦ (told.each past core l).shift
        | inr l ↦ subst (λ (lags : Lags). IsShift system (shift_by by lags))
            (sym (ap lags_or_none (get_or_past lags core None (omega (arith, l, told.many))))) (none-shift system by)
      ]
