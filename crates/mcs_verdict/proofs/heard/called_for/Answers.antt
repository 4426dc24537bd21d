use Rattle.std.proofs.Common.{◌≡◌, ℕ, zero, suc, ◌+◌, ◌<◌, cond, List, [], ◌∷◌, length, drop, add-one, refl, sym, ap, ◌∙◌, arith}
use Rattle.std.specs.Prelude.{bit_or}
use Rattle.std.specs.List.{slice_get}
use Rattle.mcs_script.specs.declared.item.Item.{Item}
use Rattle.mcs_script.specs.Script.{ends_handler}
use Rattle.mcs_verdict.specs.Calls.{badges_at, handled}
use Rattle.mcs_verdict.proofs.heard.called_for.Goals as goal
use Rattle.mcs_verdict.proofs.heard.called_for.Goals.{then-not-ends_handler-2, else-not-ends_handler-2}

-- with the badges of one item more
abbrev with_item : ℕ → ℕ → List Item → ℕ
with_item bits i items = cond (ends_handler (slice_get items (suc i))) bits (bit_or bits (badges_at (slice_get items i)))

handled-more : (bits i : ℕ) (items : List Item) → i < length items → handled bits (drop i items) ≡ handled (with_item bits i items) (drop (suc i) items)
handled-more bits i [] h = absurd (omega arith)
handled-more bits zero (item ∷ items) h = refl
handled-more bits (suc i) (item ∷ items) h = let less : i < length items = omega arith in handled-more bits i items less

handled-next : (bits i next : ℕ) (items : List Item) → i < length items → next ≡ cond (ends_handler (slice_get items (i + 1))) bits (bit_or bits (badges_at (slice_get items i)))
    → handled next (drop (i + 1) items) ≡ handled bits (drop i items)
handled-next bits i next items h e =
    let f : next ≡ with_item bits i items = e ∙ ap (λ k. cond (ends_handler (slice_get items k)) bits (bit_or bits (badges_at (slice_get items i)))) (add-one i) in
    ap (λ k. handled next (drop k items)) (add-one i) ∙ ap (λ bits. handled bits (drop (suc i) items)) f ∙ sym (handled-more bits i items h)

pub loop-i-preserved : goal.loop-i-preserved
loop-i-preserved c =
    let items = c.args.script.now in
    let i = c.loop-i.i in
    let bits = c.loop-i.bits in
    let within : i < length items = omega (arith, c.loop-i-test.true, c.len-i-end.ensures.count) in
    let ends = c.ends_handler-in-loop-i.ensures in
    elim c.if-not-ends_handler-2.branch [
      | then-not-ends_handler-2 w ↦
          handled-next bits i c.if-not-ends_handler-2.bits items within
          (w.bits-is ∙ ap (λ badges. bit_or bits badges) w.badges_at-bits.ensures
          ∙ sym (ap (λ b. cond b bits (bit_or bits (badges_at (slice_get items i)))) (sym ends ∙ w.if-not-ends_handler-2.true)))
          ∙ c.loop-i.invariant
      | else-not-ends_handler-2 w ↦
          handled-next bits i c.if-not-ends_handler-2.bits items within
          (w.bits-is ∙ sym (ap (λ b. cond b bits (bit_or bits (badges_at (slice_get items i)))) (sym ends ∙ w.if-not-ends_handler-2.false)))
          ∙ c.loop-i.invariant
    ]
