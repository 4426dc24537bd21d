use Rattle.std.proofs.Common.{◌≡◌, ◌+◌, ◌-◌, ◌<◌, ◌∙◌, ap, arith, length}
use Rattle.mcs_notify.specs.stored.Lines.{nth, place_of}
use Rattle.mcs_notify.proofs.Best.{read-is, next-is, best-next, best-stays}
use Rattle.mcs_notify.proofs.line.Line.best.Goals as goal
use Rattle.mcs_notify.proofs.line.Line.best.Goals.{then-places-next, else-places-next}

pub loop-preserved : goal.loop-preserved
loop-preserved c =
    let places = c.args.places.now in
    let first = c.args.self.now.first in
    let i = c.loop.counter in
    let next_is : c.next.inside.0 ≡ nth places first i = c.next.view_is ∙ c.loop.invariant.3 in
    let next_below : c.next.inside.0 < length places = omega (arith, next_is, c.requires.within i c.loop-test.true) in
    let best = c.loop.invariant.4 in
    let best_below : c.best.inside.0 < length places =
    omega (arith, c.best.view_is, best.2.0, c.requires.within best.0 (omega (arith, best.1, c.loop-test.true)))
    in
    let of_best = read-is _ _ _ best_below c.index-places-best.is ∙ ap (place_of places) c.best.view_is in
    let of_next = read-is _ _ _ next_below c.index-places-next.is in
    let again : i + 1 - 1 ≡ i = omega arith in (
      omega arith,
      omega (arith, c.loop-test.true),
      rw again next_is,
      next-is places first i _ _ next_is (read-is _ _ _ next_below c.index-places-next-in-loop.is),
      elim c.if-places-next.branch [
        | then-places-next w ↦
            rw (w.best-is, w.before-is)
            (best-next places first i c.loop.last _ c.loop.invariant.2 best c.next.inside.0 next_is _ _ of_best of_next w.if-places-next.true)
        | else-places-next w ↦
            rw (w.best-is, w.before-is)
            (best-stays places first i c.loop.last _ c.loop.invariant.2 best c.next.inside.0 next_is _ _ of_best of_next w.if-places-next.false)
      ],
    )
