use Rattle.std.proofs.Common.{◌≡◌, ℕ, fold, map, take}
use Rattle.mcs_hints.specs.Numbers.{numbers}
use Rattle.mcs_hints.specs.Handlers.{with_item}
use Rattle.mcs_hints.proofs.handlers.take_items.Given as goal

abbrev pub invariant-loop-item : goal.invariant-loop-item
invariant-loop-item l =
    (notes : ℕ) (so_far : ℕ → ℕ) → l.initial.taken ≡ map so_far (numbers notes)
    → l.taken ≡ map (λ note. fold (with_item note l.badges) (so_far note) (take l.item-index l.items)) (numbers notes)
