use Rattle.std.proofs.Common.{◌≡◌, ◌∙◌, ◌++◌, ◌∷◌, [], ap, ap₂, sym, length, get_or, arith}
use Rattle.std.proofs.lemmas.List.{length-map, map_more}
use Rattle.mcs_system.specs.declared.part.ChainPart.{ChainPart}
use Rattle.mcs_chain.specs.declared.figures.Figures.{Figures}
use Rattle.mcs_chain.specs.Figures.{Tally, figures_of, tally_of}
use Rattle.mcs_chain.proofs.Each.{get-made}
use Rattle.mcs_chain.proofs.tallies.figures_of_all.Goals as goal
use Rattle.mcs_chain.proofs.tallies.figures_of_all.Goals.{then-i-chains+in_ok-push, else-i-chains}

pub loop-i-preserved : goal.loop-i-preserved
loop-i-preserved c = λ horizon system past e.
    let chains = c.args.chains.now in
    let i = c.loop-i.i in
    let kept : ChainPart → Tally = λ chain. tally_of horizon system chain past in
    let told : ChainPart → Figures = λ chain. figures_of horizon system chain past in
    let before = c.loop-i.invariant horizon system past e in
    elim c.if-i-chains.branch [
      | then-i-chains+in_ok-push w ↦
          let chain = w.index-chains-i.result in
          let got = get-made kept chains i chain w.index-each-i.result w.if-i-chains.true in
          let own : w.index-each-i.result ≡ kept chain =
          w.index-each-i.is ∙ ap (λ l. get_or l i w.index-each-i.result) e ∙ got ∙ ap kept (sym w.index-chains-i.is) in
          let figures : w.figures.result ≡ told (get_or chains i chain) = w.figures.ensures horizon system past own ∙ ap told w.index-chains-i.is in
          ap (λ all. all.items) w.all-is ∙ w.in_ok-push.ensures.items ∙ ap₂ (λ l x. l ++ x ∷ []) before figures
          ∙ sym (map_more told chains i chain w.if-i-chains.true)
      | else-i-chains w ↦
          let many : length c.args.each.now ≡ length chains = ap length e ∙ length-map chains kept in
          absurd (omega (arith, many, w.if-i-chains.false, c.loop-i-test.true))
    ]
