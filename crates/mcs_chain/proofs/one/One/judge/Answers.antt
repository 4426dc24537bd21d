-- The slow answers of the latest moment, how many there are, and how many answers are judged, one row
-- later.
use Rattle.std.proofs.Common.{rules, ◌≡◌, ◌∙◌, ◌++◌, ◌+◌, ◌==◌, ◌∷◌, ap, ap₂, filter}
use Rattle.std.proofs.lemmas.Fn.{filter_same}
use Rattle.std.proofs.lemmas.Result.{on_ok_weaker}
use Rattle.mcs_ticks.specs.Capped.{capped}
use Rattle.mcs_chain.specs.declared.one.Late.{Late}
use Rattle.mcs_chain.specs.Answers.{slow, slow_of}
use Rattle.mcs_chain.specs.Origins.{Origins}
use Rattle.mcs_chain.specs.Watch.{One, judged_at, judged_many, judged_sum, late_at, lately, one_if, slow_many, slow_sum}
use Rattle.mcs_chain.proofs.one.One.judge.Goals as goal

pub returns : goal.returns
returns c = λ system past e.
    let chain = c.args.chain.now in
    let row = c.args.row.now in
    let own = c.self.view_is ∙ e in
    let stays : Late → _ = λ late. late.moment == row.moment in
    let origins_are = ap (λ (one : One). one.origins) own in
    let finding_is : c.slow_of-finding.result ≡ slow system chain past row =
    c.slow_of-finding.ensures ∙ ap (slow_of chain.deadline row.moment) (c.answered.ensures ∙ ap (λ (o : Origins). o.answered) origins_are) in
    let late_are = filter_same _ stays _ (λ x b f' k. search rules) _ _ c.retain.ensures.filtered ∙ ap (λ (one : One). filter stays one.late) own in
    let many_are : c.counted-self-inside.result ≡ slow_many system chain (row ∷ past) =
    c.counted-self-inside.ensures (slow_sum system chain past) (ap (λ (one : One). one.slow) own)
    ∙ ap (λ f. capped (one_if f + slow_sum system chain past)) finding_is in
    let judged_are : c.judged-self-inside.result ≡ judged_many system chain (row ∷ past) =
    c.judged-self-inside.ensures (judged_sum system chain past) (ap (λ (one : One). one.judged) own)
    ∙ ap (λ l. capped (judged_at chain.deadline l + judged_sum system chain past)) (c.answered-2.ensures ∙ ap (λ (o : Origins). o.answered) origins_are) in
    on_ok_weaker c.keep.result (λ kept.
    let kept_are : c.keep.new.late.items ≡ lately system chain (row ∷ past) =
    kept ∙ ap₂ (λ late f. late ++ late_at row.moment row.core f) late_are finding_is in
    cc) c.keep.ensures
