use Rattle.std.proofs.Common.{List, Option, sym, subst}
use Rattle.std.specs.Prelude.{IfSome}
use Rattle.mcs_ever_chain.specs.declared.home.Home.{Home}
use Rattle.mcs_ever_chain.specs.declared.look.Look.{Look}
use Rattle.mcs_ever_chain.specs.stored.Looks.{AreLooks, IsHome}
use Rattle.mcs_ever_chain.proofs.Results.{looks-pushed}
use Rattle.mcs_ever_chain.proofs.tell.push_look.Goals as goal

pub returns : goal.returns
returns c = λ system part at home are.
    let P : Option Home → Type 0 = λ (o : Option Home). IfSome o (IsHome system part) in
    let Q : List Look → Type 0 = λ (looks : List Look). AreLooks system 0 0 looks in
    subst Q (sym c.in_ok-push.ensures.items) (looks-pushed system 0 0 c.args.looks.now.items _ are (c.new.ensures system part at (subst P c.in-Some.is home)))
