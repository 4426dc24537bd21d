use Rattle.std.proofs.Common.{◌∷◌, [], codes}
use Rattle.std.proofs.lemmas.Result.{on_ok_weaker}
use Rattle.mcs_text.specs.Text.{context_name}
use Rattle.mcs_check_lines.proofs.Words.{then-word}
use Rattle.mcs_check_lines.proofs.hint_line.append_unbound.Goals as goal

pub returns-clause-ok : goal.returns-clause-ok
returns-clause-ok c =
    let named = rw (c.context_name.ensures.name) at c.in_ok-append_named.ensures.ok in
    on_ok_weaker c.append_word.result (λ last. then-word _ _ _ (codes "has no thread")
    (codes "context" ∷ context_name c.args.system.now c.args.context ∷ []) named last) c.append_word.ensures.ok
