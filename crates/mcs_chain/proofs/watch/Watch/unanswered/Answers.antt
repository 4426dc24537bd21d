-- What is kept of each chain is the watch's.
use Rattle.std.proofs.Common.{◌≡◌, ◌∙◌, ap, map, subst, sym, IfOk}
use Rattle.mcs_chain.specs.Found.{all_unanswered}
use Rattle.mcs_chain.specs.Watch.{Watch, one_of}
use Rattle.mcs_chain.proofs.watch.Watch.unanswered.Goals as goal

pub returns : goal.returns
returns c = λ past e.
    let own = c.self.view_is ∙ e in
    let system_is = c.parts.ensures.same in
    subst (λ s. IfOk c.unanswered_of.result (λ found. found.items ≡ all_unanswered s past c.args.horizon 0 s.chains)) system_is
    (c.unanswered_of.ensures past (c.as_slice.ensures.value ∙ ap (λ (w : Watch). w.each) own ∙ ap (λ s. map (λ chain. one_of s chain past) s.chains) (sym system_is)))
