use Rattle.std.proofs.Common.{get_or, ap, ◌∙◌}
use Rattle.mcs_system.specs.declared.part.SourcePart.{SourcePart}
use Rattle.mcs_system.specs.System.{System, no_source}
use Rattle.mcs_hints.specs.Handlers.{taken_of, unread, unread_by}
use Rattle.mcs_hints.proofs.Numbers.{kept_more, read_known}
use Rattle.mcs_hints.proofs.handlers.keep_unread.Goals as goal

pub loop-source-preserved : goal.loop-source-preserved
loop-source-preserved c =
    let system = c.args.system.now in
    let n = c.loop-source.source in
    let same = c.as_slice-part-items.ensures ∙ ap (λ (system : System). system.sources) c.parts.ensures.same in
    let part = read_known c.as_slice-part-items.result.now system.sources n c.part-item.result no_source same c.loop-source-test.true c.part-item.is in
    let badges = c.badges_from.ensures ∙ ap (λ taken. get_or taken c.part-item.result.note 0) c.requires in
    kept_more (unread system) n c.unread-hint.result c.args.hints.now.items c.loop-source.hints.items c.keep.new.hints.items c.loop-source.invariant
    c.in_ok-keep.ensures
    (c.unread-hint.ensures ∙ ap (λ badges. unread_by badges n c.part-item.result) badges
    ∙ ap (λ (part : SourcePart). unread_by (get_or (taken_of system) part.note 0) n part) part)
