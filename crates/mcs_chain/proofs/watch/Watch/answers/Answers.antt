-- What is kept of each chain is the watch's.
use Rattle.std.proofs.Common.{rules, ◌≡◌, ◌∙◌, ◌∷◌, ap, map, subst, sym, IfOk}
use Rattle.mcs_chain.specs.Answering.{answers_at}
use Rattle.mcs_chain.specs.Watch.{Watch, one_of}
use Rattle.mcs_chain.proofs.watch.Watch.answers.Goals as goal

pub returns : goal.returns
returns c = λ past e.
    let system = c.args.system.now in
    let row = c.args.row.now in
    let own = c.self.view_is ∙ e in
    let chains_are : c.as_slice-chains.result.now ≡ c.args.system.now.chains = search rules in
    subst (λ cs. IfOk c.answers_at.result (λ all. all.items ≡ answers_at system past row 0 cs)) chains_are
    (c.answers_at.ensures system past (c.as_slice.ensures.value ∙ ap (λ (w : Watch). w.each) own ∙ ap (map (λ chain. one_of system chain (row ∷ past))) (sym chains_are)))
