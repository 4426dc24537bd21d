use Rattle.std.proofs.Common.{Option, sym, subst}
use Rattle.std.specs.Prelude.{IfSome}
use Rattle.mcs_ever_chain.specs.declared.told.ChainTold.{ChainTold}
use Rattle.mcs_ever_chain.specs.Told.{IsToldOfChain}
use Rattle.mcs_ever_chain.specs.stored.Looks.{IsResult}
use Rattle.mcs_ever_chain.proofs.Results.{results-set}
use Rattle.mcs_ever_chain.proofs.tell.keep.Goals as goal

pub returns : goal.returns
returns c = λ system horizon is are.
    let n = c.number_of-number.result in
    let P : Option ChainTold → Type 0 = λ (o : Option ChainTold). IfSome o (IsToldOfChain system horizon) in
    let Q : Option ChainTold → Type 0 = λ (o : Option ChainTold). IfSome o (IsResult system horizon n) in
    let result : IsResult system horizon n c.in-Some.one = record { chain = sym c.number_of-number.ensures; so = subst P c.in-Some.is is } in
    results-set system horizon n c.args.told.now c.args.found c.if-number-told.false (subst Q (sym c.in-Some.is) result) are
