use Rattle.std.proofs.Common.{◌≡◌, ℕ, suc, ◌+◌, ◌*◌, ap, ◌∙◌, sym, arith}
use Rattle.mcs_core.specs.stored.Places.{first_leaf}
use Rattle.mcs_core.proofs.AlarmsTree.{leaf-double}
use Rattle.mcs_core.proofs.alarms.size_for.Goals as goal

pub loop-leaves-preserved : goal.loop-leaves-preserved
loop-leaves-preserved c =
    let next : c.loop-leaves.levels + 1 ≡ suc c.loop-leaves.levels = omega arith in
    let double : 2 * first_leaf c.loop-leaves.levels 1 ≡ first_leaf (c.loop-leaves.levels + 1) 1 =
    sym (ap (λ (n : ℕ). first_leaf n 1) next ∙ leaf-double c.loop-leaves.levels 1) in
    (omega (arith, double, c.loop-leaves.invariant.0), omega (arith, c.loop-leaves.invariant.1), omega (arith, c.loop-leaves-test.true))
