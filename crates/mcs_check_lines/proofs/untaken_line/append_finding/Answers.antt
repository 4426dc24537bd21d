use Rattle.std.proofs.Common.{rules, ◌≡◌, ◌∷◌, [], ◌++◌, codes, false}
use Rattle.std.proofs.lemmas.Result.{on_ok_weaker}
use Rattle.mcs_fields.specs.Fields.{joined}
use Rattle.mcs_text.specs.Text.{note_name}
use Rattle.mcs_check_lines.specs.Lines.{held_words, taker_names}
use Rattle.mcs_check_lines.proofs.Words.{then-words}
use Rattle.mcs_check_lines.proofs.untaken_line.append_finding.Goals as goal

pub returns-clause-ok : goal.returns-clause-ok
returns-clause-ok c =
    let u = c.in-Untaken in
    let system = c.args.system.now in
    let name = codes "untaken" ∷ note_name system u.note ∷ [] in
    let by = codes "by" ∷ joined false (taker_names system u.note) ∷ [] in
    let named = rw (c.note_name.ensures.name) at c.in_ok-append_named-in-Untaken.ensures.ok in
    let taken = then-words _ _ _ name by named c.in_ok-append_takers-in-Untaken.ensures.ok in
    rw u.is (on_ok_weaker c.append_held.result (λ last. then-words _ _ _ (name ++ by) (held_words u.word u.age u.deadline u.set) taken last) c.append_held.ensures.ok)
