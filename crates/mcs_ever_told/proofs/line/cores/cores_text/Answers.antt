use Rattle.std.proofs.Common.{rules, ◌≡◌, true, false}
use Rattle.mcs_ever.specs.Closed.{has}
use Rattle.mcs_ever_told.proofs.Sets.{one-more, passed-by}
use Rattle.mcs_ever_told.proofs.line.cores.cores_text.Goals as goal
use Rattle.mcs_ever_told.proofs.line.cores.cores_text.Goals.{then-cores-core+in_ok-push_core, else-cores-core}

pub loop-core-preserved : goal.loop-core-preserved
loop-core-preserved c = elim c.if-cores-core.branch [
  | then-cores-core+in_ok-push_core w ↦
      let own : has c.args.cores.now c.loop-core.core ≡ true = search rules in
      rw (w.text-is, w.later-is, w.in_ok-push_core.ensures) (one-more _ _ _ _ own c.loop-core.invariant)
  | else-cores-core w ↦
      let other : has c.args.cores.now c.loop-core.core ≡ false = search rules in
      rw (w.text-is, w.later-is) (passed-by _ _ _ _ other c.loop-core.invariant)
]
