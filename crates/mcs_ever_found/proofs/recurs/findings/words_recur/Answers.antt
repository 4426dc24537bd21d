use Rattle.std.proofs.Common.{◌≡◌, ℕ, true, rules}
use borrow.Author.Count.{below_more}
use Rattle.mcs_system.specs.System.{note_part}
use Rattle.mcs_ever.specs.Closed.{has}
use Rattle.mcs_ever_found.specs.Tests.{WordRecurs}
use Rattle.mcs_ever_found.proofs.Watches.{skip}
use Rattle.mcs_ever_found.proofs.recurs.findings.words_recur.Goals as goal

pub loop-note-preserved-then-not-has_note : goal.loop-note-preserved-then-not-has_note
loop-note-preserved-then-not-has_note c =
    let P : ℕ → Type 0 = λ n. has c.args.group.now (note_part c.args.system.now n).core ≡ true → WordRecurs c.args.by c.args.from c.args.before.now c.args.after.now c.args.doings.now c.args.system.now n in
    below_more P c.loop-note.note c.loop-note.invariant (λ own. skip _ _ _ c.has_note.ensures (search rules) own)

pub loop-note-preserved : goal.loop-note-preserved
loop-note-preserved c =
    let P : ℕ → Type 0 = λ n. has c.args.group.now (note_part c.args.system.now n).core ≡ true → WordRecurs c.args.by c.args.from c.args.before.now c.args.after.now c.args.doings.now c.args.system.now n in
    below_more P c.loop-note.note c.loop-note.invariant (λ own. c.word_recurs.ensures.0 (search rules))
