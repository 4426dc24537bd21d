use Rattle.std.proofs.Common.{◌<◌, List, [], ◌∷◌, ◌++◌, length, sym, ap, ◌∙◌, arith}
use Rattle.mcs_refills.specs.declared.refill.Refill.{Refill}
use Rattle.mcs_refills.specs.Server.{refills_of}
use Rattle.mcs_control.proofs.Lists.{take-next, some-there}
use Rattle.mcs_control.proofs.context.all_refills.Goals as goal
use Rattle.mcs_control.proofs.context.all_refills.Goals.{in-Some+in_ok-push, in_default}

pub loop-i-preserved : goal.loop-i-preserved
loop-i-preserved c =
    let xs : List Refill = refills_of c.args.refills.now.dates in
    let l : c.loop-i.i < length xs = omega (arith, c.loop-i-test.true, c.len-count.ensures.number) in
    elim c.match-get.branch [
      | in-Some+in_ok-push w ↦
          rw w.list-is
          (w.in_ok-push.ensures.items ∙ ap (λ ys. ys ++ w.in-Some.refill ∷ []) c.loop-i.invariant ∙ sym (take-next xs c.loop-i.i w.in-Some.refill l (sym c.get.ensures ∙ w.in-Some.is)))
      | in_default w ↦ absurd (some-there xs c.loop-i.i (record { begins = 0; amount = 0 }) l (sym c.get.ensures ∙ w.in_default.is))
    ]
