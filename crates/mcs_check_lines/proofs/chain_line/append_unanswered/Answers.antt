use Rattle.std.proofs.Common.{◌∷◌, [], codes}
use Rattle.std.proofs.lemmas.Result.{on_ok_weaker}
use Rattle.mcs_check_lines.specs.Chains.{due_words}
use Rattle.mcs_check_lines.proofs.Words.{then-words}
use Rattle.mcs_check_lines.proofs.chain_line.append_unanswered.Goals as goal

pub returns-clause-ok : goal.returns-clause-ok
returns-clause-ok c =
    on_ok_weaker c.append_due.result (λ last. then-words _ _ _ (codes "unanswered" ∷ c.args.name.now ∷ []) (due_words c.args.deadline c.args.origin)
    c.in_ok-append_named.ensures.ok last) c.append_due.ensures.ok
