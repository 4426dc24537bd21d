use Rattle.std.proofs.Common.{ℕ, ◌+◌, ◌-◌, List, ◌∷◌, ◌++◌, Bool, cond, map, sym, ap, ◌∙◌}
use Rattle.std.proofs.lemmas.List.Sums.{sum_by-cons}
use Rattle.mcs_chain.specs.Answers.{origins, latencies, interrupts, is_interrupt}
use Rattle.mcs_chain.specs.Figures.{tally_with}
use Rattle.mcs_chain.proofs.tally.Tally.see.Goals as goal

pub returns : goal.returns
returns c = λ horizon system past w e.
    let chain = c.args.chain.now in
    let r = c.args.row.now in
    let before = latencies system chain past in
    let is_one = is_interrupt chain.source r.what in
    let answers : List ℕ → List ℕ = λ origins. map (λ (o : ℕ). r.moment - o) origins ++ before in
    c.start.ensures horizon (interrupts chain past) (answers c.args.answered.now) (c.answer_all.ensures horizon (interrupts chain past) before e)
    ∙ ap (λ (b : Bool). tally_with horizon (cond b 1 0 + interrupts chain past) (answers c.args.answered.now)) c.is_interrupt.ensures
    ∙ ap (λ os. tally_with horizon (cond is_one 1 0 + interrupts chain past) (answers os)) w
    ∙ ap (λ n. tally_with horizon n (answers (origins system chain (r ∷ past)).answered))
    (sym (sum_by-cons (λ r. cond (is_interrupt chain.source r.what) 1 0) r past))
