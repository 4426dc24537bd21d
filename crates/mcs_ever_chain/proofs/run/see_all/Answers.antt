use Rattle.std.proofs.Common.{◌≡◌, ◌+◌, List, [], ◌∷◌, ◌++◌, take, sym, ap, ◌∙◌}
use Rattle.std.proofs.lemmas.List.{take_more}
use Rattle.mcs_ticks.specs.declared.row.Row.{Row}
use Rattle.mcs_verdict.specs.Findings.{past_of}
use Rattle.mcs_chain.specs.Figures.{tallies_of}
use Rattle.mcs_chain.specs.Watch.{watch_of}
use Rattle.mcs_ever_search.proofs.Seeing.{past_of-more}
use Rattle.mcs_ever_chain.proofs.run.see_all.Goals as goal

pub loop-row-preserved : goal.loop-row-preserved
loop-row-preserved c =
    let s = c.args.system.now in
    let rows = c.args.rows.now in
    let i = c.loop-row.row-index in
    let r = c.row-item.result in
    let next : take i rows ++ r ∷ [] ≡ take (i + 1) rows =
    ap (λ (x : Row). take i rows ++ x ∷ []) c.row-item.is ∙ sym (take_more rows i r c.loop-row-test.true) in
    let so_far = c.loop-row.invariant in
    record {
      watch = λ past w.
          let more : r ∷ past_of past (take i rows) ≡ past_of past (take (i + 1) rows) =
          sym (past_of-more past (take i rows) r) ∙ ap (λ (xs : List Row). past_of past xs) next in
          c.in_ok-see.ensures (past_of past (take i rows)) (so_far.watch past w) ∙ ap (λ (xs : List Row). watch_of s xs) more;
      tallies = λ horizon past w t.
          let more : r ∷ past_of past (take i rows) ≡ past_of past (take (i + 1) rows) =
          sym (past_of-more past (take i rows) r) ∙ ap (λ (xs : List Row). past_of past xs) next in
          c.see-in-loop-row.ensures horizon (past_of past (take i rows)) (c.in_ok-see.ensures (past_of past (take i rows)) (so_far.watch past w)) (so_far.tallies horizon past w t)
          ∙ ap (λ (xs : List Row). tallies_of horizon s xs) more;
    }
