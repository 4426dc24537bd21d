-- Lines of a list's elements, one behind another.
use Rattle.std.proofs.Common.{◌≡◌, ◌∙◌, ◌++◌, ◌+◌, ◌<◌, ℕ, List, ap, sym, append_assoc, drop, flat_map, get_or, length}
use Rattle.std.proofs.lemmas.List.{drop_more}

module _ {X : Type 0} (line : X → List ℕ) (items : List X) where
  pub one-behind : (i : ℕ) (x : X) (text now whole : List ℕ) → i < length items → x ≡ get_or items i x → now ≡ text ++ line x
      → text ++ flat_map line (drop i items) ≡ whole → now ++ flat_map line (drop (i + 1) items) ≡ whole
  one-behind i x text now whole has is put before =
      let rest = flat_map line (drop (i + 1) items) in
      ap (λ l. l ++ rest) put ∙ append_assoc text (line x) rest
      ∙ ap (λ y. text ++ (line y ++ rest)) is ∙ ap (λ l. text ++ flat_map line l) (sym (drop_more items i x has)) ∙ before
