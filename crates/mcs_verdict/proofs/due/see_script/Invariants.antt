use Rattle.std.proofs.Common.{◌≡◌, drop}
use Rattle.mcs_verdict.specs.Dues.{due_items, due_part, each_due}
use Rattle.mcs_verdict.proofs.due.see_script.Given as goal

abbrev pub invariant-loop-i : goal.invariant-loop-i
invariant-loop-i l =
    each_due 0 (λ note due. due_items note l.i l.part.deadline (drop l.i l.part.script) due) l.dues
    ≡ each_due 0 (λ note due. due_part note l.part due) l.initial.dues
