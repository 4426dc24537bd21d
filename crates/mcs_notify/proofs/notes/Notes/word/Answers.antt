use Rattle.std.proofs.Common.{sym, ap}
use Rattle.mcs_notify.specs.Note.{Note}
use Rattle.mcs_notify.proofs.Kept.{seen}
use Rattle.mcs_notify.proofs.notes.Notes.word.Goals as goal

pub returns : goal.returns
returns c =
    sym
    (ap (λ (n : Note). n.word)
    (seen (record { is_kept = c.self.invariant; view = c.self.view_is; index = c.note.view_is; within = c.requires; read = c.index.ensures })))
