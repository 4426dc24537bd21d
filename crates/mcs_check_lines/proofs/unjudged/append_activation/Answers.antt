use Rattle.std.proofs.Common.{◌∷◌, [], codes, decimal}
use Rattle.std.proofs.lemmas.Result.{on_ok_weaker}
use Rattle.mcs_check_lines.proofs.Words.{then-word}
use Rattle.mcs_check_lines.proofs.unjudged.append_activation.Goals as goal

pub returns-in-Some-clause-ok : goal.returns-in-Some-clause-ok
returns-in-Some-clause-ok c =
    rw c.in-Some.is (on_ok_weaker c.append_number.result (λ last. then-word _ _ _ (decimal c.in-Some.activated) (codes "activated" ∷ [])
    c.in_ok-append_word.ensures.ok last) c.append_number.ensures.ok)
