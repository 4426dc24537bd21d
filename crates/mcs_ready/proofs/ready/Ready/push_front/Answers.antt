use Rattle.std.proofs.Common.{◌≡◌, ◌≢◌, ◌∙◌, ap, arith, get_or, length-set, rules, set, sym}
use Rattle.mcs_ticks.specs.Queue.{entered_front}
use Rattle.mcs_ready.specs.stored.Lines.{no_thread}
use Rattle.mcs_ready.specs.Ready.{ReadyQueue, queued}
use Rattle.mcs_ready.proofs.Kept.{IsKept-alone, IsKept-front, first-read, free-view, last-read, place-below, queue-alone_front, queue-front_in, same_value, within-room}
use Rattle.mcs_ready.proofs.ready.Ready.push_front.Goals as goal

pub invariant_of-self : goal.invariant_of-self
invariant_of-self c =
    let last : c.index.result.now ≡ get_or c.self.inside.lasts.items c.args.priority no_thread = last-read _ _ _ c.self.invariant c.args.priority (search rules) _ c.index.ensures in
    let none : c.index.result.now ≡ no_thread = search rules in
    rw c.x.view_is (
    IsKept-alone _ _ _ c.self.invariant c.args.priority (search rules) c.args.x
    (within-room _ _ _ c.self.invariant _ c.self.view_is c.args.x c.requires.below)
    (free-view _ _ _ c.self.invariant _ c.self.view_is c.args.x c.requires.free) (sym last ∙ none) _ c.insert.ensures
    )

pub index-requires-else-eq : goal.index-requires-else-eq
index-requires-else-eq c =
    let last : c.index.result.now ≡ get_or c.self.inside.lasts.items c.args.priority no_thread = last-read _ _ _ c.self.invariant c.args.priority (search rules) _ c.index.ensures in
    let some : c.index.result.now ≢ no_thread = search rules in
    omega (arith, place-below _ _ _ c.self.invariant c.args.priority _ _ some last c.last.view_is)

pub index_mut-requires-else-eq-2 : goal.index_mut-requires-else-eq-2
index_mut-requires-else-eq-2 c =
    let last : c.index.result.now ≡ get_or c.self.inside.lasts.items c.args.priority no_thread = last-read _ _ _ c.self.invariant c.args.priority (search rules) _ c.index.ensures in
    let some : c.index.result.now ≢ no_thread = search rules in
    omega (arith, place-below _ _ _ c.self.invariant c.args.priority _ _ some last c.last.view_is)

pub invariant_of-self-else-eq : goal.invariant_of-self-else-eq
invariant_of-self-else-eq c =
    let last : c.index.result.now ≡ get_or c.self.inside.lasts.items c.args.priority no_thread = last-read _ _ _ c.self.invariant c.args.priority (search rules) _ c.index.ensures in
    let some : c.index.result.now ≢ no_thread = search rules in
    let first = first-read _ _ _ c.self.invariant c.args.priority _ _ some last c.last.view_is _ c.index-else-eq.ensures in
    rw (first, c.x-else-eq.view_is, c.last.view_is, last) (
    IsKept-front _ _ _ c.self.invariant c.args.priority (search rules) c.args.x
    (within-room _ _ _ c.self.invariant _ c.self.view_is c.args.x c.requires.below)
    (free-view _ _ _ c.self.invariant _ c.self.view_is c.args.x c.requires.free) (λ e. some (last ∙ e))
    )

pub returns-then-eq : goal.returns-then-eq
returns-then-eq c =
    let last : c.index.result.now ≡ get_or c.self.inside.lasts.items c.args.priority no_thread = last-read _ _ _ c.self.invariant c.args.priority (search rules) _ c.index.ensures in
    let none : c.index.result.now ≡ no_thread = search rules in
    rw c.x.view_is (
    same_value _ _ _ _ (
    queue-alone_front _ _ _ c.self.invariant c.args.priority (search rules) c.args.x
    (within-room _ _ _ c.self.invariant _ c.self.view_is c.args.x c.requires.below)
    (free-view _ _ _ c.self.invariant _ c.self.view_is c.args.x c.requires.free) (sym last ∙ none)
    ∙ ap (λ (v : ReadyQueue). entered_front (queued c.args.x c.args.priority) v.queue) c.self.view_is
    ) (length-set c.self.inside.next.items _ _ ∙ ap (λ (v : ReadyQueue). v.room) c.self.view_is)
    )

pub returns-else-eq : goal.returns-else-eq
returns-else-eq c =
    let last : c.index.result.now ≡ get_or c.self.inside.lasts.items c.args.priority no_thread = last-read _ _ _ c.self.invariant c.args.priority (search rules) _ c.index.ensures in
    let some : c.index.result.now ≢ no_thread = search rules in
    let first = first-read _ _ _ c.self.invariant c.args.priority _ _ some last c.last.view_is _ c.index-else-eq.ensures in
    rw (first, c.x-else-eq.view_is, c.last.view_is, last) (
    same_value _ _ _ _ (
    queue-front_in _ _ _ c.self.invariant c.args.priority (search rules) c.args.x
    (within-room _ _ _ c.self.invariant _ c.self.view_is c.args.x c.requires.below)
    (free-view _ _ _ c.self.invariant _ c.self.view_is c.args.x c.requires.free) (λ e. some (last ∙ e))
    ∙ ap (λ (v : ReadyQueue). entered_front (queued c.args.x c.args.priority) v.queue) c.self.view_is
    ) (length-set (set c.self.inside.next.items _ _) _ _ ∙ length-set c.self.inside.next.items _ _ ∙ ap (λ (v : ReadyQueue). v.room) c.self.view_is)
    )
