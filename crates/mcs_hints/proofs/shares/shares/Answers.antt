use Rattle.std.proofs.Common.{◌≡◌, false, length, get_or, ap, ◌∙◌, arith}
use Rattle.mcs_system.specs.declared.part.ContextPart.{ContextPart}
use Rattle.mcs_system.specs.System.{System}
use Rattle.mcs_hints.specs.Contexts.{is_bound, share_where, share_of}
use Rattle.mcs_hints.proofs.Numbers.{at_number, length-numbers, one_more}
use Rattle.mcs_hints.proofs.Grants.{part_known, config_known}
use Rattle.mcs_hints.proofs.shares.shares.Goals as goal

pub bounds-bounds-context : goal.bounds-bounds-context
bounds-bounds-context c =
    let system = c.args.system.now in
    let parts : length c.as_slice-part-items.result.now ≡ length system.contexts = ap length c.as_slice-part-items.ensures ∙ ap (λ (system : System). length system.contexts) c.parts.ensures.same in
    let bounds : length c.args.bounds.now ≡ length system.contexts = ap length c.requires ∙ length-numbers (is_bound system.threads) (length system.contexts) in
    omega arith

pub share_of-requires : goal.share_of-requires
share_of-requires c =
    let system = c.args.system.now in
    let n = c.loop-context.context in
    let same = c.as_slice-part-items.ensures ∙ ap (λ (system : System). system.contexts) c.parts.ensures.same in
    let parts = ap length same in
    config_known system n c.part-item.result c.parts.ensures.well_formed (omega (arith, parts, c.loop-context-test.true))
    (part_known system c.as_slice-part-items.result.now n c.part-item.result same c.loop-context-test.true c.part-item.is)

pub loop-context-preserved : goal.loop-context-preserved
loop-context-preserved c =
    let system = c.args.system.now in
    let n = c.loop-context.context in
    let same = c.as_slice-part-items.ensures ∙ ap (λ (system : System). system.contexts) c.parts.ensures.same in
    let parts = ap length same in
    let part = part_known system c.as_slice-part-items.result.now n c.part-item.result same c.loop-context-test.true c.part-item.is in
    let bound : get_or c.args.bounds.now n false ≡ is_bound system.threads n =
    ap (λ bounds. get_or bounds n false) c.requires ∙ at_number (is_bound system.threads) (length system.contexts) n false (omega (arith, parts, c.loop-context-test.true))
    in
    let is : c.share_of.result ≡ share_of system n =
    c.share_of.ensures ∙ ap (λ b. share_where b c.part-item.result.config) bound
    ∙ ap (λ (part : ContextPart). share_where (is_bound system.threads n) part.config) part
    in
    one_more (share_of system) n c.share_of.result c.loop-context.shares.items c.push.new.self.items c.loop-context.invariant c.in_ok-push.ensures.items is
