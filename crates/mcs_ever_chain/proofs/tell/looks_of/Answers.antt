use Rattle.std.proofs.Common.{◌≡◌, ◌<◌, List, Some, length, get_or, sym, ap, subst, ◌∙◌, arith}
use Rattle.std.specs.Prelude.{IfSome, slice_get}
use Rattle.mcs_system.specs.declared.part.ChainPart.{ChainPart}
use Rattle.mcs_system.specs.System.{System}
use Rattle.mcs_ever_chain.specs.stored.Looks.{IsHome}
use Rattle.mcs_ever_chain.proofs.Chains.{there}
use Rattle.mcs_ever_chain.proofs.tell.looks_of.Goals as goal

pub loop-chain-preserved : goal.loop-chain-preserved
loop-chain-preserved c =
    let s = c.args.system.now in
    let n = c.loop-chain.chain in
    let part = c.index-as_slice-chain.result in
    let items : c.as_slice.result.now ≡ s.chains = c.as_slice.ensures ∙ ap (λ (x : System). x.chains) c.parts-parts.ensures.same in
    let known : n < length s.chains = (let d = ap (λ (x : System). length x.chains) c.parts-parts.ensures.same in omega (arith, c.len-chain-end.ensures, d, c.loop-chain-test.true)) in
    let at : slice_get s.chains n ≡ Some part =
    there s.chains n part known ∙ ap (λ (x : ChainPart). Some x) (sym (c.index-as_slice-chain.is ∙ ap (λ (cs : List ChainPart). get_or cs n part) items)) in
    let H : System → Type 0 = λ (x : System). IfSome c.home_of-home.result (IsHome x part) in
    c.in_ok-push_look.ensures s part at (subst H c.parts-parts.ensures.same c.home_of-home.ensures) c.loop-chain.invariant
