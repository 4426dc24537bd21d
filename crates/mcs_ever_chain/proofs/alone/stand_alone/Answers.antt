use Rattle.std.proofs.Common.{◌≡◌, ℕ, suc, true, ◌+◌, List, ◌∷◌, drop, drop-cons, sym, ap, subst, ◌∙◌, arith}
use Rattle.mcs_ticks.specs.declared.row.Row.{Row}
use Rattle.mcs_ever.specs.Closed.{has}
use Rattle.mcs_ever_chain.specs.stored.Alone.{AreAlone}
use Rattle.mcs_ever_chain.proofs.alone.stand_alone.Goals as goal

pub loop-row-preserved : goal.loop-row-preserved
loop-row-preserved c = λ rest.
    let rows = c.args.rows.now in
    let i = c.loop-row.row-index in
    let r = c.row-item.result in
    let stands : c.is_alone.result ≡ true = cc in
    let next : suc i ≡ i + 1 = omega arith in
    let e : drop i rows ≡ r ∷ drop (i + 1) rows =
    drop-cons rows i r c.loop-row-test.true ∙ ap (λ (x : Row). x ∷ drop (suc i) rows) (sym c.row-item.is) ∙ ap (λ (k : ℕ). r ∷ drop k rows) next in
    let P : List Row → Type 0 = λ (rows : List Row). AreAlone (has c.args.set.now) c.loop-row.before rows in
    c.loop-row.invariant (subst P (sym e) (c.is_alone.ensures stands, rest))
