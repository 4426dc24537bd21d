use Rattle.std.proofs.Common.{◌≡◌, drop}
use Rattle.mcs_verdict.specs.Dues.{due_parts, each_due}
use Rattle.mcs_verdict.proofs.due.see_scripts.Given as goal

abbrev pub invariant-loop-part : goal.invariant-loop-part
invariant-loop-part l =
    each_due 0 (λ note due. due_parts note (drop l.part-index l.parts) due) l.dues
    ≡ each_due 0 (λ note due. due_parts note l.parts due) l.initial.dues
