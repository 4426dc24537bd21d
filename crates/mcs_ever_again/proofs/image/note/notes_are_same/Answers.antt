use Rattle.std.proofs.Common.{arith, rules}
use Rattle.std.proofs.lemmas.List.{ext_get_or}
use Rattle.mcs_notify.specs.Note.{quiet_note}
use Rattle.mcs_ever_again.proofs.image.note.notes_are_same.Goals as goal

pub returns : goal.returns
returns c = (
  λ _. ext_get_or quiet_note c.args.after.now c.args.before.now (grind (arith, c.if-before-after.false))
      (λ k within. c.loop-i.invariant k (grind (arith, within, c.loop-i-test.false, c.if-before-after.false))),
  λ _. search rules,
)
