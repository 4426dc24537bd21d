use Rattle.std.proofs.Common.{◌∷◌, [], ◌++◌, codes}
use Rattle.std.proofs.lemmas.Result.{on_ok_weaker}
use Rattle.mcs_text.specs.Text.{note_name, source_name}
use Rattle.mcs_check_lines.proofs.Words.{then-word, then-words}
use Rattle.mcs_check_lines.proofs.hint_line.append_unawaited.Goals as goal

pub returns-clause-ok : goal.returns-clause-ok
returns-clause-ok c =
    let system = c.args.system.now in
    let source = rw (c.source_name.ensures.name) at c.in_ok-append_named.ensures.ok in
    let note = rw (c.note_name.ensures.name) at c.in_ok-append_named-2.ensures.ok in
    let subject = codes "source" ∷ source_name system c.args.source ∷ [] in
    let verb = codes "interrupts on" ∷ note_name system c.args.note ∷ [] in
    on_ok_weaker c.append_word.result (λ last. then-word _ _ _ (codes "and no script waits on it") (subject ++ verb)
    (then-words _ _ _ subject verb source note) last) c.append_word.ensures.ok
