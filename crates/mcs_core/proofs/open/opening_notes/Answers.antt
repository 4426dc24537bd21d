use Rattle.std.proofs.Common.{◌≡◌, ◌<◌, List, [], length, replicate, set, get_or, add-one, ap, sym, ◌∙◌, arith}
use Rattle.mcs_notify.specs.Note.{Note, Notifications, quiet_note}
use Rattle.mcs_system.specs.declared.part.NotePart.{NotePart}
use Rattle.mcs_core.proofs.Opening.{opened_notes, opened-many, opened-none, opened-all, opened-here, opened-more}
use Rattle.mcs_core.proofs.open.opening_notes.Goals as goal

pub loop-i-init : goal.loop-i-init
loop-i-init c = record {
  notes = ap (λ (n : Notifications). n.notes) c.in_ok-notes.ensures ∙ ap (λ n. replicate n quiet_note) c.len.ensures ∙ opened-none c.args.system.now.notes;
  threads = ap (λ (n : Notifications). n.threads) c.in_ok-notes.ensures ∙ c.len-2.ensures;
}

pub hold_first-requires-clause-known : goal.hold_first-requires-clause-known
hold_first-requires-clause-known c =
    omega (arith, ap length c.loop-i.invariant.notes, opened-many c.loop-i.i c.args.system.now.notes, ap length c.as_slice-note-items.ensures, c.loop-i-test.true)

pub hold_first-requires-clause-quiet : goal.hold_first-requires-clause-quiet
hold_first-requires-clause-quiet c =
    let l : c.loop-i.i < length c.args.system.now.notes = omega (arith, ap length c.as_slice-note-items.ensures, c.loop-i-test.true) in
    ap (λ (ns : List Note). get_or ns c.loop-i.i quiet_note) c.loop-i.invariant.notes ∙ opened-here c.loop-i.i c.args.system.now.notes l

pub loop-i-preserved : goal.loop-i-preserved
loop-i-preserved c =
    let part : NotePart = c.note-item.result in
    let l : c.loop-i.i < length c.args.system.now.notes = omega (arith, ap length c.as_slice-note-items.ensures, c.loop-i-test.true) in
    let at : part ≡ get_or c.args.system.now.notes c.loop-i.i part = c.note-item.is ∙ ap (λ (xs : List NotePart). get_or xs c.loop-i.i part) c.as_slice-note-items.ensures in
    record {
      notes = ap (λ (n : Notifications). n.notes) c.hold_first.ensures
          ∙ ap (λ (ns : List Note). set ns c.loop-i.i (record { word = part.word; waiters = [] })) c.loop-i.invariant.notes
          ∙ opened-more c.loop-i.i c.args.system.now.notes part l at
          ∙ ap (λ k. opened_notes k c.args.system.now.notes) (sym (add-one c.loop-i.i));
      threads = ap (λ (n : Notifications). n.threads) c.hold_first.ensures ∙ c.loop-i.invariant.threads;
    }

pub returns-clause-notes : goal.returns-clause-notes
returns-clause-notes c =
    c.loop-i.invariant.notes ∙ opened-all c.loop-i.i c.args.system.now.notes (omega (arith, ap length c.as_slice-note-items.ensures, c.loop-i-test.false))
