use Rattle.std.proofs.Common.{◌∷◌, [], codes, decimal}
use Rattle.std.proofs.lemmas.Result.{on_ok_weaker}
use Rattle.mcs_check_lines.specs.Figures.{known, value_word}
use Rattle.mcs_check_lines.proofs.Words.{then-words}
use Rattle.mcs_check_lines.proofs.unjudged.append_times.Goals as goal

pub returns-clause-ok : goal.returns-clause-ok
returns-clause-ok c =
    let deadline = codes "deadline" ∷ decimal c.args.deadline ∷ [] in
    on_ok_weaker c.append_activation.result (λ last. then-words _ _ _ deadline (codes "activated" ∷ value_word (known c.args.activated) ∷ [])
    c.in_ok-append_counts.ensures.ok last) c.append_activation.ensures.ok
