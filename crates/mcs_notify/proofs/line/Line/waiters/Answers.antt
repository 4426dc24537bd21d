use Rattle.std.proofs.Common.{◌≡◌, suc, ◌+◌, ◌<◌, ◌++◌, ◌∷◌, [], List, ◌∙◌, ap, arith, length, sym}
use Rattle.mcs_ticks.specs.declared.queue.Queued.{Queued}
use Rattle.mcs_notify.specs.declared.line.Place.{Place}
use Rattle.mcs_notify.specs.stored.Lines.{nth, place_of, queued_at, waiters_from}
use Rattle.mcs_notify.proofs.Best.{read-is, next-is}
use Rattle.mcs_notify.proofs.Lines.{waiters_from-next}
use Rattle.mcs_notify.proofs.line.Line.waiters.Goals as goal

pub bounds-places-thread-inside : goal.bounds-places-thread-inside
bounds-places-thread-inside c = omega (arith, c.thread.view_is, c.loop.invariant.1, c.requires c.loop.counter c.loop-test.true)

pub loop-preserved : goal.loop-preserved
loop-preserved c =
    let places = c.args.places.now in
    let first = c.args.self.now.first in
    let i = c.loop.counter in
    let next : i + 1 ≡ suc i = omega arith in
    let here : c.loop.thread ≡ nth places first i = c.loop.invariant.1 in
    let below : c.thread.inside.0 < length places = omega (arith, c.thread.view_is, here, c.requires i c.loop-test.true) in
    let place : c.index-places-thread.result ≡ place_of places c.loop.thread =
    c.index-places-thread.is ∙ read-is _ _ _ below c.index-places-thread.is ∙ ap (place_of places) c.thread.view_is
    in
    let waiter : Queued = record { thread = c.loop.thread; priority = c.index-places-thread.result.priority } in
    let queued : waiter ≡ queued_at places (nth places first i) =
    ap (λ (p : Place). let q : Queued = record { thread = c.loop.thread; priority = p.priority } in q) place ∙ ap (queued_at places) here
    in (
      c.in_ok-push.ensures.items ∙ ap (λ (items : List Queued). items ++ waiter ∷ []) c.loop.invariant.0
          ∙ ap (λ (q : Queued). waiters_from places first i ++ q ∷ []) queued
          ∙ sym (waiters_from-next places first i) ∙ ap (waiters_from places first) (sym next),
      next-is places first i _ _ here place,
    )
