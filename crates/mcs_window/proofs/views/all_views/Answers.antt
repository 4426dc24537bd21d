use Rattle.std.proofs.Common.{◌≡◌, ◌+◌, ◌<◌, ◌∙◌, List, [], ◌∷◌, length, get_or, set, refl, ap, sym, subst, arith}
use Rattle.std.specs.Prelude.{map}
use Rattle.std.specs.List.{range_with_len}
use Rattle.mcs_control.specs.declared.view.ContextView.{ContextView}
use Rattle.mcs_system.specs.declared.part.SystemParts.{SystemParts}
use Rattle.mcs_core.specs.State.{opening_state}
use Rattle.mcs_window.specs.stored.Views.{AreDealt}
use Rattle.mcs_window.specs.Views.{view_in}
use Rattle.mcs_window.proofs.Dealing.{part-at, core-known, has-head, dealt-left, dealt-more}
use Rattle.mcs_window.proofs.views.all_views.Goals as goal

some_one : (views : List ContextView) → (views ≡ [] → ⊥) → 0 < length views
some_one [] none = absurd (none refl)
some_one (view ∷ views) none = omega arith

pub unwrap-view-requires : goal.unwrap-view-requires
unwrap-view-requires g c =
    let s = c.args.system.now in
    let x = c.loop-context.context-index in
    let at = part-at s x c.core.inside.0 c.parts.result.now c.as_slice-contexts.result.now c.context-item.result c.parts.ensures.same c.as_slice-contexts.ensures c.loop-context-test.true c.context-item.is c.core.view_is in
    let queue = c.index_mut-queue.result.now in
    let head = subst (λ k. queue ≡ get_or c.loop-context.queues.items k queue) at.0 c.index_mut-queue.ensures.value in
    let none = has-head s (map g.T.Stands.state c.args.cores.now) c.requires (opening_state s 0) x c.loop-context.queues.items queue (core-known s c.parts.ensures.well_formed x at.1) at.1 c.loop-context.invariant.left head in
    let some = some_one queue.items none in
    c.pop_front.ensures.variant.1 (let ok = queue.ok.0 in omega arith)

pub loop-context-preserved : goal.loop-context-preserved
loop-context-preserved g c =
    let s = c.args.system.now in
    let x = c.loop-context.context-index in
    let states = map g.T.Stands.state c.args.cores.now in
    let queues = c.loop-context.queues.items in
    let queue = c.index_mut-queue.result.now in
    let next = c.pop_front.new.self in
    let view = c.unwrap-view.result in
    let items : queue.items ≡ view ∷ next.items = rw c.unwrap-view.ensures at c.pop_front.ensures.items in
    let at = part-at s x c.core.inside.0 c.parts.result.now c.as_slice-contexts.result.now c.context-item.result c.parts.ensures.same c.as_slice-contexts.ensures c.loop-context-test.true c.context-item.is c.core.view_is in
    let known = core-known s (c.parts.ensures.well_formed) x at.1 in
    let head = subst (λ k. queue ≡ get_or queues k queue) at.0 c.index_mut-queue.ensures.value in
    subst (λ k. AreDealt s states (x + 1) (set queues k next) c.push.new.self.items) (sym at.0)
    (record {
      left = dealt-left s states c.requires x queues queue next view known at.1 c.loop-context.invariant.left head items;
      are = dealt-more s states c.requires x queues queue next view known at.1 c.loop-context.invariant.left head items c.loop-context.views.items c.push.new.self.items
          c.loop-context.invariant.are c.in_ok-push.ensures.items;
    })

pub returns : goal.returns
returns g c =
    let s = c.args.system.now in
    let same : length c.as_slice-contexts.result.now ≡ length s.contexts = ap length c.as_slice-contexts.ensures ∙ ap (λ (parts : SystemParts). length parts.contexts) c.parts.ensures.same in
    let all : c.loop-context.context-index ≡ length s.contexts = omega arith in
    λ d. c.loop-context.invariant.are d ∙ ap (λ n. map (view_in s (λ k. (get_or (map g.T.Stands.state c.args.cores.now) k d).core)) (range_with_len 0 n)) all
