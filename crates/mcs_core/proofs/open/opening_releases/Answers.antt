use Rattle.std.proofs.Common.{◌≡◌, ◌<◌, List, [], ◌∷◌, length, get_or, take, ◌++◌, ◌∙◌, append-nil, arith, sym, ap}
use Rattle.std.specs.Prelude.{true, false, ◌==◌}
use Rattle.std.proofs.lemmas.List.{length-take-le}
use Rattle.mcs_release.specs.Release.{ReleaseQueue}
use Rattle.mcs_system.specs.declared.part.ThreadPart.{ThreadPart}
use Rattle.mcs_system.specs.System.{core_of}
use Rattle.mcs_core.specs.Core.{opening_releases}
use Rattle.mcs_core.proofs.Counts.{not_held_releases}
use Rattle.mcs_core.proofs.Opening.{none-after, released-next}
use Rattle.mcs_core.proofs.open.opening_releases.Goals as goal
use Rattle.mcs_core.proofs.open.opening_releases.Goals.{then-eq, else-eq}

pub enter-requires-clause-free : goal.enter-requires-clause-free
enter-requires-clause-free c =
    let ts : List ThreadPart = c.args.system.now.threads in
    let same : c.as_slice-thread-items.result.now ≡ ts = c.as_slice-thread-items.ensures in
    let l : c.loop-i.i < length ts = omega (arith, ap length same, c.loop-i-test.true) in
    not_held_releases c.loop-i.i c.loop-i.releases.queue
    (rw c.loop-i.invariant.queue (none-after c.args.system.now c.args.core c.loop-i.i 0 (take c.loop-i.i ts) (omega (arith, length-take-le c.loop-i.i ts (omega arith)))))

pub loop-i-preserved : goal.loop-i-preserved
loop-i-preserved c =
    let ts : List ThreadPart = c.args.system.now.threads in
    let x : ThreadPart = c.thread-item.result in
    let same : c.as_slice-thread-items.result.now ≡ ts = c.as_slice-thread-items.ensures in
    let l : c.loop-i.i < length ts = omega (arith, ap length same, c.loop-i-test.true) in
    let at : x ≡ get_or ts c.loop-i.i x = c.thread-item.is ∙ ap (λ xs. get_or xs c.loop-i.i x) same in
    let own : c.eq.result ≡ (core_of c.args.system.now x == c.args.core) = c.eq.ensures ∙ ap (λ n. n == c.args.core) c.core_of_thread.ensures in
    elim c.if-eq.branch [
      | then-eq w ↦ record {
        queue =
            ap (λ (r : ReleaseQueue). r.queue) (w.releases-is ∙ w.enter.ensures) ∙ ap (λ ds. ds ++ record { thread = c.loop-i.i; date = x.start } ∷ []) c.loop-i.invariant.queue
            ∙ sym (released-next c.args.system.now c.args.core ts c.loop-i.i x true l at (sym own ∙ w.if-eq.true));
        room = ap (λ (r : ReleaseQueue). r.room) (w.releases-is ∙ w.enter.ensures) ∙ c.loop-i.invariant.room;
      }
      | else-eq w ↦ record {
        queue =
            ap (λ (r : ReleaseQueue). r.queue) w.releases-is ∙ c.loop-i.invariant.queue ∙ sym (append-nil (opening_releases c.args.system.now c.args.core 0 (take c.loop-i.i ts)))
            ∙ sym (released-next c.args.system.now c.args.core ts c.loop-i.i x false l at (sym own ∙ w.if-eq.false));
        room = ap (λ (r : ReleaseQueue). r.room) w.releases-is ∙ c.loop-i.invariant.room;
      }
    ]
