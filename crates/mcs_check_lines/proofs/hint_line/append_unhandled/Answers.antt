use Rattle.std.proofs.Common.{◌∷◌, [], codes}
use Rattle.std.proofs.lemmas.Result.{on_ok_weaker}
use Rattle.mcs_text.specs.Text.{note_name, source_name}
use Rattle.mcs_check_lines.specs.Lines.{untaken_words}
use Rattle.mcs_check_lines.proofs.Words.{then-words}
use Rattle.mcs_check_lines.proofs.hint_line.append_unhandled.Goals as goal

pub returns-clause-ok : goal.returns-clause-ok
returns-clause-ok c =
    let system = c.args.system.now in
    let source = rw (c.source_name.ensures.name) at c.in_ok-append_named.ensures.ok in
    let rest = rw (c.note_name.ensures.name) at c.append_untaken.ensures.ok in
    on_ok_weaker c.append_untaken.result (λ last. then-words _ _ _ (codes "source" ∷ source_name system c.args.source ∷ [])
    (untaken_words (codes "interrupts on") (note_name system c.args.note) c.args.badge) source last) rest
