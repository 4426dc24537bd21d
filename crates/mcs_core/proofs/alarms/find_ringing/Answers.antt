use Rattle.std.proofs.Common.{◌≡◌, ℕ, zero, suc, ◌-◌, ◌/◌, length, ap, sym, subst, ◌∙◌, arith}
use Rattle.std.specs.Prelude.{Option, Some, None, not}
use Rattle.std.proofs.lemmas.List.{get_or_default}
use Rattle.mcs_ticks.specs.Soonest.{HasCome}
use Rattle.mcs_core.specs.stored.Places.{first_leaf, date_at, IsFirstPlace}
use Rattle.mcs_core.proofs.AlarmsTree.{IsReached, reached-root, reached-child, found, none-found, node-above, leaf-above}
use Rattle.mcs_core.proofs.Ends.{not-come}
use Rattle.mcs_core.proofs.alarms.find_ringing.Goals as goal

pub bounds-tree-1 : goal.bounds-tree-1
bounds-tree-1 c = omega (arith, c.requires.leaves.many, leaf-above c.args.levels 1)

pub returns-then-not-has_come : goal.returns-then-not-has_come
returns-then-not-has_come c =
    let root : c.index-tree-1.result ≡ date_at c.args.tree.now 1 = c.index-tree-1.is ∙ get_or_default c.args.tree.now 1 c.index-tree-1.result None (omega (arith, c.requires.leaves.many, leaf-above c.args.levels 1)) in
    let P : Option ℕ → Type 0 = HasCome c.args.moment in
    none-found c.args.moment c.args.levels c.args.tree.now c.args.alarms.now c.requires
    (λ h. not-come c.has_come.result _ c.has_come.ensures (ap not c.if-not-has_come.true) (subst P (sym root) h))

pub loop-level-init : goal.loop-level-init
loop-level-init c =
    let root : c.index-tree-1.result ≡ date_at c.args.tree.now 1 = c.index-tree-1.is ∙ get_or_default c.args.tree.now 1 c.index-tree-1.result None (omega (arith, c.requires.leaves.many, leaf-above c.args.levels 1)) in
    let P : Option ℕ → Type 0 = HasCome c.args.moment in
    reached-root c.args.moment c.args.levels c.args.tree.now (subst P root (c.has_come.ensures.0 c.if-not-has_come.false))

pub child-node-requires : goal.child-node-requires
child-node-requires c =
    let next : c.loop-level._level ≡ suc (c.loop-level._level - 1) = omega (arith, c.loop-level-test.true) in
    let P : ℕ → Type 0 = λ n. IsReached c.args.moment c.args.levels n c.loop-level.node c.args.tree.now in
    let is = subst P next c.loop-level.invariant in
    omega (arith, c.requires.leaves.many, node-above c.args.levels (c.loop-level._level - 1) c.loop-level.node is.within)

pub loop-level-preserved : goal.loop-level-preserved
loop-level-preserved c =
    let next : c.loop-level._level ≡ suc (c.loop-level._level - 1) = omega (arith, c.loop-level-test.true) in
    let P : ℕ → Type 0 = λ n. IsReached c.args.moment c.args.levels n c.loop-level.node c.args.tree.now in
    reached-child c.args.moment c.args.levels (c.loop-level._level - 1) c.loop-level.node c.child-node.result c.args.tree.now c.requires.nodes (subst P next c.loop-level.invariant) c.child-node.ensures

pub overflow_sub-result : goal.overflow_sub-result
overflow_sub-result c =
    let end : c.loop-level._level ≡ zero = omega (arith, c.loop-level-test.false) in
    let P : ℕ → Type 0 = λ n. IsReached c.args.moment c.args.levels n c.loop-level.node c.args.tree.now in
    let is = subst P end c.loop-level.invariant in
    omega (arith, c.requires.leaves.many, is.after)

pub returns : goal.returns
returns c =
    let end : c.loop-level._level ≡ zero = omega (arith, c.loop-level-test.false) in
    let P : ℕ → Type 0 = λ n. IsReached c.args.moment c.args.levels n c.loop-level.node c.args.tree.now in
    let half : first_leaf c.args.levels 1 ≡ length c.args.tree.now / 2 = omega (arith, c.requires.leaves.many) in
    let Q : ℕ → Type 0 = λ n. IsFirstPlace c.args.moment c.args.alarms.now (Some (c.loop-level.node - n)) in
    subst Q half (found c.args.moment c.args.levels c.loop-level.node c.args.tree.now c.args.alarms.now c.requires (subst P end c.loop-level.invariant))
