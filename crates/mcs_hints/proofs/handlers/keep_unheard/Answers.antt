use Rattle.std.proofs.Common.{ap, ◌∙◌}
use Rattle.mcs_system.specs.declared.part.ThreadPart.{ThreadPart}
use Rattle.mcs_system.specs.System.{System, no_thread}
use Rattle.mcs_hints.specs.Handlers.{first_unheard, taken_of, unheard}
use Rattle.mcs_hints.proofs.Numbers.{kept_more, read_known}
use Rattle.mcs_hints.proofs.handlers.keep_unheard.Goals as goal

pub loop-thread-preserved : goal.loop-thread-preserved
loop-thread-preserved c =
    let system = c.args.system.now in
    let n = c.loop-thread.thread in
    let same = c.as_slice-part-items.ensures ∙ ap (λ (system : System). system.threads) c.parts.ensures.same in
    let part = read_known c.as_slice-part-items.result.now system.threads n c.part-item.result no_thread same c.loop-thread-test.true c.part-item.is in
    kept_more (unheard system) n c.first_unheard-hint.result c.args.hints.now.items c.loop-thread.hints.items c.keep.new.hints.items c.loop-thread.invariant
    c.in_ok-keep.ensures
    (c.first_unheard-hint.ensures ∙ ap (λ taken. first_unheard taken n c.as_slice.result.now) c.requires ∙ ap (first_unheard (taken_of system) n) c.as_slice.ensures.same
    ∙ ap (λ (part : ThreadPart). first_unheard (taken_of system) n part.script) part)
