-- The copy of a list, one more at a time.
use Rattle.std.proofs.Common.{◌≡◌, ℕ, ◌+◌, ◌<◌, List, [], ◌∷◌, ◌++◌, length, get_or, take, sym, ap, ◌∙◌}
use Rattle.std.specs.Prelude.{Some, None, slice_get}
use Rattle.std.proofs.lemmas.List.{take_more}
use Rattle.std.proofs.lemmas.Option.{slice_get-get_or, get_or_from_slice_get}
use Rattle.mcs_refills.specs.declared.refill.Refill.{Refill}

pub take-next : (xs : List Refill) (i : ℕ) (x : Refill) → i < length xs → slice_get xs i ≡ Some x → take (i + 1) xs ≡ take i xs ++ x ∷ []
take-next xs i x l e = take_more xs i x l ∙ ap (λ y. take i xs ++ y ∷ []) (get_or_from_slice_get xs i x x e)

pub some-there : (xs : List Refill) (i : ℕ) (d : Refill) → i < length xs → slice_get xs i ≡ None → ⊥
some-there xs i d l e = let f : Some (get_or xs i d) ≡ None = sym (slice_get-get_or xs i d l) ∙ e in cc
