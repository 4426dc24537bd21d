-- No other set has an origin that was answered, or all sets are made anew.
use Rattle.std.proofs.Common.{◌≡◌, [], ◌++◌, List, OnOk, drop, length, map, set, take, sym, ap, ◌∙◌, subst, arith}
use Rattle.std.proofs.lemmas.Grind.{common_steps}
use Rattle.mcs_origins.specs.declared.mark.Mark.{Mark}
use Rattle.mcs_origins.specs.Sets.{without}
use Rattle.mcs_chain.proofs.Nothing.{emptied, untouched}
use Rattle.mcs_chain.proofs.sets.drop_from_sets.Goals as goal

pub returns-then-may_have-clause-ok : goal.returns-then-may_have-clause-ok
returns-then-may_have-clause-ok c =
    let answered = c.args.answered.now in
    let held = c.args.held.now.items in
    let carried = c.args.carried.now.items in
    subst (λ (l : List (List Mark)). OnOk c.make_sets.result ((c.make_sets.new.held.items ≡ map (without answered) held) × (c.make_sets.new.carried.items ≡ l)))
    (emptied answered carried c.args.number) c.make_sets.ensures.ok

pub returns-clause-ok : goal.returns-clause-ok
returns-clause-ok c =
    let answered = c.args.answered.now in
    let held = c.args.held.now.items in
    let carried = c.args.carried.now.items in
    let end : c.len.result ≡ length held = grind (arith, common_steps) in
    let cleared : take c.args.carried.now.len (c.clear.new.sets ++ drop (length c.clear.new.sets) carried) ≡ set carried c.args.number [] = grind (arith, common_steps) in
    let same = ap (λ l. set l c.args.number []) c.deref-else-may_have.ensures.value in
    let apart = c.may_have-else-may_have.ensures c.if-may_have-2.false in (
      untouched answered held c.deref.result.now c.len.result c.deref.ensures.value end (c.may_have.ensures c.if-may_have.false),
      cleared ∙ sym same ∙ sym apart ∙ ap (map (without answered)) same,
    )
