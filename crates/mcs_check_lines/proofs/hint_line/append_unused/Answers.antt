use Rattle.std.proofs.Common.{◌∷◌, [], codes}
use Rattle.std.proofs.lemmas.Result.{on_ok_weaker}
use Rattle.mcs_text.specs.Text.{counted}
use Rattle.mcs_check_lines.proofs.Words.{then-word}
use Rattle.mcs_check_lines.proofs.hint_line.append_unused.Goals as goal

pub returns-clause-ok : goal.returns-clause-ok
returns-clause-ok c system =
    let core = rw (c.core.view_is) at c.in_ok-append_counts.ensures.ok in
    on_ok_weaker c.append_word.result (λ last. then-word _ _ _ (codes "has no thread") (counted ((codes "core", c.args.core) ∷ [])) core last)
    c.append_word.ensures.ok
