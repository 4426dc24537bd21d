use Rattle.std.proofs.Common.{ℕ, ◌<◌, List, length, subst, sym}
use Rattle.mcs_notify.specs.declared.line.Place.{Place}
use Rattle.mcs_notify.specs.stored.Lines.{nth}
use Rattle.mcs_notify.proofs.Kept.{in_range}
use Rattle.mcs_notify.proofs.notes.Notes.waiters.Goals as goal

pub waiters-requires : goal.waiters-requires
waiters-requires c =
    let InRange : List Place → Type 0 = λ places. (k : ℕ) → k < c.index.result.now.line.len → nth places c.index.result.now.line.first k < length places in
    subst InRange (sym c.deref.ensures.value)
    (in_range (record { is_kept = c.self.invariant; view = c.self.view_is; index = c.note.view_is; within = c.requires; read = c.index.ensures }))
