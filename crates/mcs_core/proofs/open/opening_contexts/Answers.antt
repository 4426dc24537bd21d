use Rattle.std.proofs.Common.{◌≡◌, ◌<◌, length, get_or, sym, subst, ◌∙◌, arith, ap}
use Rattle.std.specs.Prelude.{option_map}
use Rattle.std.proofs.lemmas.List.{get_or_default}
use Rattle.mcs_control.specs.Context.{WithRoom}
use Rattle.mcs_system.specs.declared.part.ContextPart.{ContextPart}
use Rattle.mcs_core.specs.stored.Contexts.{seen_contexts}
use Rattle.mcs_system.specs.System.{start_of}
use Rattle.mcs_core.proofs.Budgets.{IsAccepted, accepted-is}
use Rattle.mcs_core.proofs.Opening.{start-early, made-next, room-next}
use Rattle.mcs_core.proofs.open.opening_contexts.Goals as goal

pub opening_context-requires-clause-checked : goal.opening_context-requires-clause-checked
opening_context-requires-clause-checked c =
    let system = c.args.system.now in
    let same : c.as_slice-parts.result.now ≡ system.contexts = c.as_slice-parts.ensures in
    let x : ContextPart = c.index-parts-k.result in
    let l : c.loop-k.k < length system.contexts = omega (arith, ap length same, c.loop-k-test.true) in
    let at : x ≡ get_or system.contexts c.loop-k.k x = c.index-parts-k.is ∙ ap (λ xs. get_or xs c.loop-k.k x) same in
    let P : ContextPart → Type 0 = λ part. IsAccepted system.min_budget part.config in
    let known = subst P (sym at) (accepted-is system.min_budget (get_or system.contexts c.loop-k.k x).config (c.requires.contexts c.loop-k.k x l).accepted) in
    record { some = known.some; within = known.within; short = known.short; few = known.few }

pub opening_context-requires-clause-early : goal.opening_context-requires-clause-early
opening_context-requires-clause-early c =
    let same : c.as_slice-parts.result.now ≡ c.args.system.now.contexts = c.as_slice-parts.ensures in
    let l : c.loop-k.k < length c.args.system.now.contexts = omega (arith, ap length same, c.loop-k-test.true) in
    let start : c.index.result.now ≡ start_of c.args.system.now.threads c.loop-k.k =
    c.index.ensures ∙ get_or_default c.in_ok-starts.starts.items c.loop-k.k c.index.result.now 0 (omega (arith, c.in_ok-starts.ensures.many)) ∙ c.in_ok-starts.ensures.starts c.loop-k.k l in
    rw start (start-early c.args.system.now c.args.system.now.threads c.loop-k.k c.requires.threads)

pub loop-k-preserved : goal.loop-k-preserved
loop-k-preserved c =
    let same : c.as_slice-parts.result.now ≡ c.args.system.now.contexts = c.as_slice-parts.ensures in
    let x : ContextPart = c.index-parts-k.result in
    let l : c.loop-k.k < length c.args.system.now.contexts = omega (arith, ap length same, c.loop-k-test.true) in
    let at : x ≡ get_or c.args.system.now.contexts c.loop-k.k x = c.index-parts-k.is ∙ ap (λ xs. get_or xs c.loop-k.k x) same in
    let start : c.index.result.now ≡ start_of c.args.system.now.threads c.loop-k.k =
    c.index.ensures ∙ get_or_default c.in_ok-starts.starts.items c.loop-k.k c.index.result.now 0 (omega (arith, c.in_ok-starts.ensures.many)) ∙ c.in_ok-starts.ensures.starts c.loop-k.k l in
    record {
      contexts =
          ap seen_contexts c.in_ok-push.ensures.items
          ∙ made-next c.args.system.now c.args.core c.args.system.now.contexts c.loop-k.k x c.loop-k.contexts.items c.in_ok-kept.kept l at c.loop-k.invariant.contexts
          (ap (option_map (λ (own : WithRoom). own.context)) c.in_ok-kept.ensures ∙ rw start at c.in_ok-context.ensures.context);
      room = rw c.in_ok-push.ensures.items (room-next c.loop-k.contexts.items c.in_ok-kept.kept c.loop-k.invariant.room (rw c.in_ok-kept.ensures c.in_ok-context.ensures.room));
    }
