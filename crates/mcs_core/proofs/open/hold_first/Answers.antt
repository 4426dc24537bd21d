use Rattle.std.proofs.Common.{ap, ◌∙◌}
use Rattle.mcs_notify.specs.Note.{Note, with_note}
use Rattle.mcs_core.proofs.Opening.{held-word}
use Rattle.mcs_core.proofs.open.hold_first.Goals as goal

pub returns : goal.returns
returns c =
    c.post.ensures.note
    ∙ ap (λ (note : Note). with_note c.args.note note c.args.notes.now) (held-word c.args.word _ c.post.result c.requires.quiet c.post.ensures.posted)
