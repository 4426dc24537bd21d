-- One more tally has taken the row.
use Rattle.std.proofs.Common.{◌≡◌, ◌∙◌, ◌∷◌, ◌≤◌, ap, ap₂, sym, arith, length, map, get_or, set, ◌++◌, append-nil}
use Rattle.std.proofs.lemmas.List.{length-map, take_all, drop_all}
use Rattle.mcs_system.specs.declared.part.ChainPart.{ChainPart}
use Rattle.mcs_chain.specs.Figures.{Tally, tally_of}
use Rattle.mcs_chain.specs.Watch.{One, one_of}
use Rattle.mcs_chain.proofs.Each.{set-one-more, get-made, get-one-more}
use Rattle.mcs_chain.proofs.tallies.all_count.Goals as goal
use Rattle.mcs_chain.proofs.tallies.all_count.Goals.{then-i-chains+then-i-ones, else-i-chains, else-i-chains-via-then-i-chains+else-i-ones, else-i-chains-via-else-i-chains}

pub loop-i-preserved : goal.loop-i-preserved
loop-i-preserved c = λ horizon system past seen e.
    let chains = c.args.chains.now in
    let row = c.args.row.now in
    let i = c.loop-i.i in
    let one : ChainPart → One = λ chain. one_of system chain (row ∷ past) in
    let kept : ChainPart → Tally = λ chain. tally_of horizon system chain past in
    let next : ChainPart → Tally = λ chain. tally_of horizon system chain (row ∷ past) in
    let before = c.loop-i.invariant horizon system past seen e in
    let many : length c.args.each.now ≡ length chains = ap length e ∙ length-map chains kept in
    let ones_are : length c.args.ones.now ≡ length chains = ap length seen ∙ length-map chains one in
    elim c.if-i-chains.branch [
      | then-i-chains+then-i-ones w ↦
          let chain = w.index-chains-i.result in
          let got = get-one-more next kept chains i chain w.index-each-i.result w.if-i-chains.true in
          let own : get_or c.loop-i.each i w.index-each-i.result ≡ kept chain =
          ap (λ l. get_or l i w.index-each-i.result) before ∙ got ∙ ap kept (sym w.index-chains-i.is) in
          let given = get-made one chains i chain w.index-ones-i.result w.if-i-chains.true in
          let is_one : w.index-ones-i.result ≡ one chain =
          w.index-ones-i.is ∙ ap (λ l. get_or l i w.index-ones-i.result) seen ∙ given ∙ ap one (sym w.index-chains-i.is) in
          let taken : w.see.new.self ≡ next (get_or chains i chain) =
          w.see.ensures horizon system past (w.answered.ensures ∙ ap (λ (o : One). o.origins.answered) (w.one.view_is ∙ is_one)) own ∙ ap next w.index-chains-i.is in
          w.each-is ∙ ap₂ (λ l y. set l i y) before taken ∙ set-one-more next kept chains i chain w.if-i-chains.true
      | else-i-chains w ↦
          elim w.else-i-chains.branch [
            | else-i-chains-via-then-i-chains+else-i-ones v ↦ absurd (omega (arith, many, ones_are, v.if-i-ones.false, c.loop-i-test.true))
            | else-i-chains-via-else-i-chains v ↦ absurd (omega (arith, many, v.if-i-chains.false, c.loop-i-test.true))
          ]
    ]

pub returns : goal.returns
returns c = λ horizon system past seen e.
    let chains = c.args.chains.now in
    let row = c.args.row.now in
    let kept : ChainPart → Tally = λ chain. tally_of horizon system chain past in
    let next : ChainPart → Tally = λ chain. tally_of horizon system chain (row ∷ past) in
    let many : length c.args.each.now ≡ length chains = ap length e ∙ length-map chains kept in
    let all : length chains ≤ c.loop-i.i = omega (arith, many, c.loop-i-test.false) in
    c.loop-i.invariant horizon system past seen e
    ∙ ap₂ (λ made left. map next made ++ map kept left) (take_all c.loop-i.i chains all) (drop_all c.loop-i.i chains all) ∙ append-nil (map next chains)
