use Rattle.std.proofs.Common.{◌∷◌, [], codes}
use Rattle.std.proofs.lemmas.Result.{on_ok_weaker}
use Rattle.mcs_text.specs.Text.{counted}
use Rattle.mcs_check_lines.proofs.Words.{then-word}
use Rattle.mcs_check_lines.proofs.hint_line.append_overcommitted.Goals as goal

pub returns-clause-ok : goal.returns-clause-ok
returns-clause-ok c system =
    let granted = rw (c.core.view_is) at c.in_ok-append_counts.ensures.ok in
    on_ok_weaker c.append_word.result (λ last. then-word _ _ _ (codes "of 1000000")
    (counted ((codes "core", c.args.core) ∷ (codes "grants", c.args.millionths) ∷ [])) granted last)
    c.append_word.ensures.ok
