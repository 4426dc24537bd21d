-- One origin more.
use Rattle.std.proofs.Common.{◌≡◌, suc, ◌-◌, [], ◌∷◌, ◌++◌, ap, ◌∙◌, arith}
use Rattle.mcs_origins.specs.declared.mark.Mark.{Mark}
use Rattle.mcs_origins.specs.Sets.{without}
use Rattle.mcs_origins.specs.stored.Stretches.{flat, run}
use Rattle.mcs_origins.proofs.Left.{parts-more}
use Rattle.mcs_origins.proofs.stretches.push_parts.Goals as goal

pub loop-number-init : goal.loop-number-init
loop-number-init c =
    let a = c.args.stretch.now in
    let answered = c.args.answered.now in
    let old = flat c.args.all.now.items in
    parts-more answered a.last a.step a.places a.more (flat c.push_left.new.all.items) old
    (c.in_ok-push_left.ensures ∙ ap (λ (m : Mark). without answered (m ∷ []) ++ old) c.mark_at.ensures)

pub loop-number-preserved : goal.loop-number-preserved
loop-number-preserved c =
    let a = c.args.stretch.now in
    let answered = c.args.answered.now in
    let n = c.loop-number.number - 1 in
    let old = flat c.loop-number.all.items in
    let same : suc n ≡ c.loop-number.number = omega arith in
    parts-more answered a.last a.step a.places n (flat c.push_left-in-loop-number.new.all.items) old
    (c.in_ok-push_left-2.ensures ∙ ap (λ (m : Mark). without answered (m ∷ []) ++ old) c.mark_at-in-loop-number.ensures)
    ∙ ap (λ k. without answered (run a.last a.step k a.places) ++ old) same ∙ c.loop-number.invariant
