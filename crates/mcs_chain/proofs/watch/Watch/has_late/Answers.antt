use Rattle.std.proofs.Common.{◌≡◌, ◌∙◌, ap, sym}
use Rattle.mcs_chain.specs.stored.Still.{have_late}
use Rattle.mcs_chain.specs.Watch.{Watch}
use Rattle.mcs_chain.proofs.Still.{none-due}
use Rattle.mcs_chain.proofs.watch.Watch.has_late.Goals as goal

pub returns : goal.returns
returns c = λ before none.
    let each_are : c.as_slice.result.now ≡ c.args.self.now.each = c.as_slice.ensures.value ∙ ap (λ (w : Watch). w.each) c.self.view_is in
    none-due before 0 c.args.self.now.each (ap have_late (sym each_are) ∙ sym c.have_late.ensures ∙ none)
