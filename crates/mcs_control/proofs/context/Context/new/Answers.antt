use Rattle.mcs_control.proofs.Helds.{new-slice, new-refills}
use Rattle.mcs_control.proofs.context.Context.new.Goals as goal
use Rattle.mcs_control.proofs.context.Context.new.Goals.{then-config, else-config+in_ok-new}

pub invariant_of-result : goal.invariant_of-result
invariant_of-result c =
    elim c.if-config.branch [
      | then-config w ↦ rw w.budget-is (new-slice c.args.config c.args.mode c.args.room w.new.result c.requires.checked w.if-config.true w.new.ensures)
      | else-config+in_ok-new w ↦ rw w.budget-is (new-refills c.args.config c.args.mode c.args.at c.args.room w.in_ok-new.field-0 c.requires.checked w.if-config.false w.in_ok-new.ensures)
    ]
