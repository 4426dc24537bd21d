-- One more chain has taken the row.
use Rattle.std.proofs.Common.{◌≡◌, ◌∙◌, ◌∷◌, ap, ap₂, sym, arith, length, get_or, set}
use Rattle.std.proofs.lemmas.List.{length-map}
use Rattle.mcs_system.specs.declared.part.ChainPart.{ChainPart}
use Rattle.mcs_chain.specs.Watch.{One, one_of}
use Rattle.mcs_chain.proofs.Each.{set-one-more, get-one-more}
use Rattle.mcs_chain.proofs.chains.all_see.Goals as goal
use Rattle.mcs_chain.proofs.chains.all_see.Goals.{then-i-chains+in_ok-see, else-i-chains}

pub loop-i-preserved : goal.loop-i-preserved
loop-i-preserved c = λ system past e m.
    let chains = c.args.chains.now in
    let row = c.args.row.now in
    let i = c.loop-i.i in
    let kept : ChainPart → One = λ chain. one_of system chain past in
    let next : ChainPart → One = λ chain. one_of system chain (row ∷ past) in
    let before = c.loop-i.invariant system past e m in
    elim c.if-i-chains.branch [
      | then-i-chains+in_ok-see w ↦
          let chain = w.index-chains-i.result in
          let got = get-one-more next kept chains i chain w.index-each-i.result w.if-i-chains.true in
          let own : get_or c.loop-i.each i w.index-each-i.result ≡ kept chain =
          ap (λ l. get_or l i w.index-each-i.result) before ∙ got ∙ ap kept (sym w.index-chains-i.is) in
          let taken : w.see.new.self ≡ next (get_or chains i chain) = w.in_ok-see.ensures system past own m ∙ ap next w.index-chains-i.is in
          w.each-is ∙ ap₂ (λ l y. set l i y) before taken ∙ set-one-more next kept chains i chain w.if-i-chains.true
      | else-i-chains w ↦
          let many : length c.args.each.now ≡ length chains = ap length e ∙ length-map chains kept in
          absurd (omega (arith, many, w.if-i-chains.false, c.loop-i-test.true))
    ]
