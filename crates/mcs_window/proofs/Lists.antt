-- Lists whose items have a property each, and one more.
use Rattle.std.proofs.Common.{◌≡◌, ℕ, ◌+◌, ◌<◌, Bool, true, false, List, [], ◌∷◌, ◌++◌, length, get_or, refl, sym, ap, ◌∙◌, subst, arith}
use Rattle.std.specs.Prelude.{nat_lt, slice_index_or}
use Rattle.std.proofs.lemmas.Bool.Decides.{nat_tests}
use Rattle.std.proofs.lemmas.List.{get_or_append_left, get_or_push}

-- one of a list that has some
pub some-of : {S : Type 0} (xs : List S) (c : ℕ) → c < length xs → S
some-of [] c l = absurd (omega arith)
some-of (x ∷ xs) c l = x

-- what is true of each of a list is true of each of the list with one more
pub each-more : {S : Type 0} (xs more : List S) (many : ℕ) (y : S) (P : ℕ → S → Type 0) → length xs ≡ many →
    ((c : ℕ) (x : S) → c < many → P c (slice_index_or xs c x)) → P many y → more ≡ xs ++ y ∷ [] → (c : ℕ) (x : S) → c < many + 1 → P c (slice_index_or more c x)
each-more xs more many y P long each last e c x l = by (nat_lt c many) refl
  where
    by : (u : Bool) → nat_lt c many ≡ u → P c (slice_index_or more c x)
    by true f =
        let below : c < many = grind (arith, nat_tests) in
        subst (P c) (sym (ap (λ zs. get_or zs c x) e ∙ get_or_append_left xs (y ∷ []) x c (omega arith))) (each c x below)
    by false f =
        let same : many ≡ c = grind (arith, nat_tests) in
        subst (P c) (sym (ap (λ zs. get_or zs c x) e ∙ get_or_push xs y x c (omega arith))) (subst (λ n. P n y) same last)
