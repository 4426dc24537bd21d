use Rattle.std.proofs.Common.{◌≡◌, ◌∙◌, List, [], ◌∷◌, length, false, refl, sym}
use Rattle.std.specs.Prelude.{◌==◌}
use Rattle.std.specs.List.{list_all}
use Rattle.mcs_script.specs.declared.item.Item.{Item}
use Rattle.mcs_spin.specs.Spun.{is_compute, computes}
use Rattle.mcs_spin.proofs.spun.computes.Goals as goal

some : (items : List Item) → (length items == 0) ≡ false → list_all is_compute items ≡ computes items
some [] e = cc
some (item ∷ items) e = refl

pub returns-then-not-is_empty : goal.returns-then-not-is_empty
returns-then-not-is_empty c = c.all_compute.ensures ∙ some c.args.items.now (sym c.if-not-is_empty.ensures)
