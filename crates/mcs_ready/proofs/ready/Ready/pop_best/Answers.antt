use Rattle.std.proofs.Common.{◌≡◌, ◌≢◌, ◌∙◌, List, [], ap, arith, length-set, refl, rules, set, sym}
use Rattle.mcs_ticks.specs.declared.queue.Queued.{Queued}
use Rattle.mcs_ticks.specs.Queue.{first_of, rest_of}
use Rattle.mcs_ready.specs.Ready.{ReadyQueue, thread_of}
use Rattle.mcs_ready.proofs.Kept.{IsKept-emptied, IsKept-rest, end-below, end-read, behind-read, first-taken, head-below, head-read, head-several, head-single, queue-emptied, queue-rest_in, queue_unmarked, same_value}
use Rattle.mcs_ready.proofs.ready.Ready.pop_best.Goals as goal
use Rattle.mcs_ready.proofs.ready.Ready.pop_best.Goals.{then-eq, else-eq}

pub returns-in_err-priority-clause-first : goal.returns-in_err-priority-clause-first
returns-in_err-priority-clause-first c =
    let empty : c.args.self.now.queue ≡ [] = sym (ap (λ (v : ReadyQueue). v.queue) c.self.view_is) ∙ queue_unmarked _ _ _ c.self.invariant c.in_err-priority.ensures in
    c.from_residual.ensures ∙ sym (ap (λ (queue : List Queued). thread_of (first_of queue)) empty)

pub returns-in_err-priority-clause-rest : goal.returns-in_err-priority-clause-rest
returns-in_err-priority-clause-rest c =
    let empty : c.args.self.now.queue ≡ [] = sym (ap (λ (v : ReadyQueue). v.queue) c.self.view_is) ∙ queue_unmarked _ _ _ c.self.invariant c.in_err-priority.ensures in
    same_value _ _ _ _ (empty ∙ sym (ap rest_of empty)) refl

pub index-requires-2 : goal.index-requires-2
index-requires-2 c = omega (arith, end-below _ _ _ c.self.invariant c.in_ok-priority.priority c.in_ok-priority.ensures.0 _ c.index.ensures _ c.last.view_is)

pub index_mut-requires-then-eq : goal.index_mut-requires-then-eq
index_mut-requires-then-eq c = rw c.x.view_is (omega (arith, head-below _ _ _ c.self.invariant c.in_ok-priority.priority c.in_ok-priority.ensures.0 _ c.index.ensures _ c.last.view_is _ c.index-2.ensures))

pub invariant_of-self : goal.invariant_of-self
invariant_of-self c =
    let first = head-read _ _ _ c.self.invariant c.in_ok-priority.priority c.in_ok-priority.ensures.0 _ c.index.ensures _ c.last.view_is _ c.index-2.ensures in
    let one : c.index-2.result.now ≡ c.index.result.now = search rules in
    rw (c.x.view_is, first) (IsKept-emptied _ _ _ c.self.invariant c.in_ok-priority.priority c.in_ok-priority.ensures.0 (head-single _ _ _ c.self.invariant c.in_ok-priority.priority c.in_ok-priority.ensures.0 _ c.index.ensures _ c.last.view_is _ c.index-2.ensures one) _ c.remove.ensures)

pub index-requires-else-eq : goal.index-requires-else-eq
index-requires-else-eq c = rw c.x.view_is (omega (arith, head-below _ _ _ c.self.invariant c.in_ok-priority.priority c.in_ok-priority.ensures.0 _ c.index.ensures _ c.last.view_is _ c.index-2.ensures))

pub index_mut-requires-else-eq : goal.index_mut-requires-else-eq
index_mut-requires-else-eq c = omega (arith, end-below _ _ _ c.self.invariant c.in_ok-priority.priority c.in_ok-priority.ensures.0 _ c.index.ensures _ c.last.view_is)

pub index_mut-requires-else-eq-2 : goal.index_mut-requires-else-eq-2
index_mut-requires-else-eq-2 c = rw c.x.view_is (omega (arith, head-below _ _ _ c.self.invariant c.in_ok-priority.priority c.in_ok-priority.ensures.0 _ c.index.ensures _ c.last.view_is _ c.index-2.ensures))

pub invariant_of-self-else-eq : goal.invariant_of-self-else-eq
invariant_of-self-else-eq c =
    let last = end-read _ _ _ c.self.invariant c.in_ok-priority.priority c.in_ok-priority.ensures.0 _ c.index.ensures _ c.last.view_is in
    let first = head-read _ _ _ c.self.invariant c.in_ok-priority.priority c.in_ok-priority.ensures.0 _ c.index.ensures _ c.last.view_is _ c.index-2.ensures in
    let second = behind-read _ _ _ c.self.invariant c.in_ok-priority.priority c.in_ok-priority.ensures.0 _ c.index.ensures _ c.last.view_is _ c.index-2.ensures _ c.x.view_is _ c.index-else-eq.ensures in
    let other : c.index-2.result.now ≢ c.index.result.now = search rules in
    rw (second, c.x.view_is, first, c.last.view_is, last) (IsKept-rest _ _ _ c.self.invariant c.in_ok-priority.priority c.in_ok-priority.ensures.0 (head-several _ _ _ c.self.invariant c.in_ok-priority.priority c.in_ok-priority.ensures.0 _ c.index.ensures _ c.last.view_is _ c.index-2.ensures other))

pub returns-clause-first : goal.returns-clause-first
returns-clause-first c =
    let first = head-read _ _ _ c.self.invariant c.in_ok-priority.priority c.in_ok-priority.ensures.0 _ c.index.ensures _ c.last.view_is _ c.index-2.ensures in
    rw first (
    sym (first-taken _ _ _ c.self.invariant c.in_ok-priority.priority c.in_ok-priority.ensures.0 c.in_ok-priority.ensures.1)
    ∙ ap (λ (v : ReadyQueue). thread_of (first_of v.queue)) c.self.view_is
    )

pub returns-clause-rest : goal.returns-clause-rest
returns-clause-rest c =
    let last = end-read _ _ _ c.self.invariant c.in_ok-priority.priority c.in_ok-priority.ensures.0 _ c.index.ensures _ c.last.view_is in
    let first = head-read _ _ _ c.self.invariant c.in_ok-priority.priority c.in_ok-priority.ensures.0 _ c.index.ensures _ c.last.view_is _ c.index-2.ensures in
    elim c.if-eq.branch [
      | then-eq w ↦
          let one : c.index-2.result.now ≡ c.index.result.now = search rules in
          w.self-is ∙ rw (c.x.view_is, first) (
          same_value _ _ _ _ (
          sym (ap rest_of (queue-emptied _ _ _ c.self.invariant c.in_ok-priority.priority c.in_ok-priority.ensures.0 (head-single _ _ _ c.self.invariant c.in_ok-priority.priority c.in_ok-priority.ensures.0 _ c.index.ensures _ c.last.view_is _ c.index-2.ensures one) c.in_ok-priority.ensures.1))
          ∙ ap (λ (v : ReadyQueue). rest_of v.queue) c.self.view_is
          ) (length-set c.self.inside.next.items _ _ ∙ ap (λ (v : ReadyQueue). v.room) c.self.view_is)
          )
      | else-eq w ↦
          let second = behind-read _ _ _ c.self.invariant c.in_ok-priority.priority c.in_ok-priority.ensures.0 _ c.index.ensures _ c.last.view_is _ c.index-2.ensures _ c.x.view_is _ w.index-else-eq.ensures in
          let other : c.index-2.result.now ≢ c.index.result.now = search rules in
          w.self-is ∙ rw (second, c.x.view_is, first, c.last.view_is, last) (
          same_value _ _ _ _ (
          sym (ap rest_of (queue-rest_in _ _ _ c.self.invariant c.in_ok-priority.priority c.in_ok-priority.ensures.0 (head-several _ _ _ c.self.invariant c.in_ok-priority.priority c.in_ok-priority.ensures.0 _ c.index.ensures _ c.last.view_is _ c.index-2.ensures other) c.in_ok-priority.ensures.1))
          ∙ ap (λ (v : ReadyQueue). rest_of v.queue) c.self.view_is
          ) (length-set (set c.self.inside.next.items _ _) _ _ ∙ length-set c.self.inside.next.items _ _ ∙ ap (λ (v : ReadyQueue). v.room) c.self.view_is)
          )
    ]
