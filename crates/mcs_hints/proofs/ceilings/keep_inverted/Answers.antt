use Rattle.std.proofs.Common.{ap, ◌∙◌}
use Rattle.mcs_system.specs.declared.part.ThreadPart.{ThreadPart}
use Rattle.mcs_system.specs.System.{System, no_thread}
use Rattle.mcs_hints.specs.Ceilings.{first_inverted, inverted}
use Rattle.mcs_hints.proofs.Numbers.{kept_more, read_known}
use Rattle.mcs_hints.proofs.ceilings.keep_inverted.Goals as goal

pub loop-thread-preserved : goal.loop-thread-preserved
loop-thread-preserved c =
    let system = c.args.system.now in
    let n = c.loop-thread.thread in
    let same = c.as_slice-part-items.ensures ∙ ap (λ (system : System). system.threads) c.parts.ensures.same in
    let part = read_known c.as_slice-part-items.result.now system.threads n c.part-item.result no_thread same c.loop-thread-test.true c.part-item.is in
    kept_more (inverted system) n c.first_inverted-hint.result c.args.hints.now.items c.loop-thread.hints.items c.keep.new.hints.items c.loop-thread.invariant
    c.in_ok-keep.ensures
    (c.first_inverted-hint.ensures ∙ ap (first_inverted n c.part-item.result.priority) c.as_slice.ensures.same
    ∙ ap (λ (part : ThreadPart). first_inverted n part.priority part.script) part)
