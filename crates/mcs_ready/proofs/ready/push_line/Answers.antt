use Rattle.std.proofs.Common.{◌≡◌, ◌≢◌, ℕ, ◌<◌, ◌∙◌, ap, arith, length, get_or, refl, rules}
use Rattle.std.proofs.lemmas.Bool.{ne_eqb}
use Rattle.std.proofs.lemmas.List.{get_or_default}
use Rattle.mcs_ready.specs.stored.Lines.{no_thread}
use Rattle.mcs_ready.proofs.Listed.{IsListing-next, IsListing-none, last-found, listed-below, listed-last}
use Rattle.mcs_ready.proofs.ready.push_line.Goals as goal

pub loop-init : goal.loop-init
loop-init c =
    let some : c.args.last ≢ no_thread = search rules in
    let below : c.last.inside.0 < length c.args.next.now = rw c.last.view_is (c.requires.known some) in
    let first : c.thread.inside.0 ≡ get_or c.args.next.now c.args.last 0 =
    c.thread.view_is ∙ c.index-next-last.is ∙ get_or_default _ _ _ 0 below ∙ ap (λ (x : ℕ). get_or c.args.next.now x 0) c.last.view_is
    in
    rw first (IsListing-none _ _ _ _ _ (rw (ne_eqb c.args.last no_thread some) refl) c.requires.within)

pub returns-then-eq-2 : goal.returns-then-eq-2
returns-then-eq-2 c =
    let here : c.loop.thread ≡ c.args.last = search rules in
    rw c.in_ok-push.ensures.items (listed-last _ _ _ _ _ _ _ c.loop.invariant c.loop-test.true here)

pub bounds-next-thread-inside : goal.bounds-next-thread-inside
bounds-next-thread-inside c = rw c.thread-in-loop.view_is (listed-below _ _ _ _ _ _ _ c.loop.invariant c.loop-test.true)

pub offset_bounds-next-thread-inside : goal.offset_bounds-next-thread-inside
offset_bounds-next-thread-inside c =
    let below : c.thread-in-loop.inside.0 < length c.args.next.now = rw c.thread-in-loop.view_is (listed-below _ _ _ _ _ _ _ c.loop.invariant c.loop-test.true) in
    search rules

pub loop-preserved : goal.loop-preserved
loop-preserved c =
    let below : c.thread-in-loop.inside.0 < length c.args.next.now = rw c.thread-in-loop.view_is (listed-below _ _ _ _ _ _ _ c.loop.invariant c.loop-test.true) in
    let behind : c.index-next-thread.result ≡ get_or c.args.next.now c.loop.thread 0 =
    c.index-next-thread.is ∙ get_or_default _ _ _ 0 below ∙ ap (λ (x : ℕ). get_or c.args.next.now x 0) c.thread-in-loop.view_is
    in
    let more : c.loop.thread ≢ c.args.last = search rules in
    rw c.in_ok-push.ensures.items (IsListing-next _ _ _ _ _ _ _ c.loop.invariant c.loop-test.true more _ behind)

pub returns : goal.returns
returns c = absurd (last-found _ _ _ _ _ _ _ c.loop.invariant c.requires.few (omega arith))
