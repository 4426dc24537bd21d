use Rattle.std.proofs.Common.{◌≡◌, ℕ, suc, ◌-◌, ◌*◌, ◌/◌, List, sym, subst, arith}
use Rattle.std.specs.Prelude.{Option}
use Rattle.mcs_core.proofs.AlarmsTree.{IsJoined, joined-more, joined-first, same-itself, leaf-double}
use Rattle.mcs_core.proofs.alarms.join_above.Goals as goal

pub loop-level-init : goal.loop-level-init
loop-level-init c =
    let leaf : IsJoined c.args.levels c.args.levels c.args.leaf c.args.tree.now c.args.tree.now = record {
      below = omega (arith, c.requires.leaf, c.requires.many);
      near = omega (arith, c.requires.leaf, c.requires.many, leaf-double c.args.levels 1);
      others = c.requires.others;
      many = c.requires.many;
      same = same-itself _ c.args.tree.now;
    } in
    (omega arith, joined-first c.args.levels c.args.levels c.args.leaf (c.args.leaf / 2 * 2) c.args.tree.now c.args.tree.now (omega arith) (omega arith) leaf)

pub loop-level-preserved : goal.loop-level-preserved
loop-level-preserved c =
    let first = c.loop-level.first in
    let next : c.loop-level._level ≡ suc (c.loop-level._level - 1) = omega (arith, c.loop-level-test.true) in
    let P : ℕ → Type 0 = λ n. IsJoined c.args.levels n first c.args.tree.now c.loop-level.tree in
    let Q : List (Option ℕ) → Type 0 = IsJoined c.args.levels (c.loop-level._level - 1) (first / 2) c.args.tree.now in
    let parent = subst Q (sym c.join.ensures) (joined-more c.args.levels (c.loop-level._level - 1) first c.args.tree.now c.loop-level.tree (subst P next c.loop-level.invariant.1)) in
    (omega arith, joined-first c.args.levels (c.loop-level._level - 1) (first / 2) (first / 4 * 2) c.args.tree.now c.join.new.tree (omega arith) (omega arith) parent)
