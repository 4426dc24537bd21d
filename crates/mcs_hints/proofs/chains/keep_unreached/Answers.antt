use Rattle.std.proofs.Common.{ap, ◌∙◌}
use Rattle.mcs_system.specs.System.{System}
use Rattle.mcs_hints.specs.Chains.{no_chain, unreached, unreached_by}
use Rattle.mcs_hints.proofs.Numbers.{kept_more, read_known}
use Rattle.mcs_hints.proofs.chains.keep_unreached.Goals as goal

pub loop-chain-preserved : goal.loop-chain-preserved
loop-chain-preserved c =
    let system = c.args.system.now in
    let n = c.loop-chain.chain in
    let same = c.as_slice-part-items.ensures ∙ ap (λ (system : System). system.chains) c.parts-parts.ensures.same in
    let part = read_known c.as_slice-part-items.result.now system.chains n c.part-item.result no_chain same c.loop-chain-test.true c.part-item.is in
    kept_more (unreached system) n c.in_ok-hint.hint c.args.hints.now.items c.loop-chain.hints.items c.keep.new.hints.items c.loop-chain.invariant
    c.in_ok-keep.ensures
    (c.in_ok-hint.ensures ∙ ap (λ (system : System). unreached_by system n c.part-item.result) c.parts-parts.ensures.same ∙ ap (unreached_by system n) part)
