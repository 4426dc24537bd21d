use Rattle.std.proofs.Common.{◌∷◌, [], codes}
use Rattle.std.proofs.lemmas.Result.{on_ok_weaker}
use Rattle.mcs_text.specs.Text.{counted}
use Rattle.mcs_check_lines.proofs.Words.{then-words}
use Rattle.mcs_check_lines.proofs.hint_line.append_call.Goals as goal

pub returns-clause-ok : goal.returns-clause-ok
returns-clause-ok c =
    let priorities = rw (c.from.ensures) at (rw (c.from-2.ensures) at c.append_counts.ensures.ok) in
    on_ok_weaker c.append_counts.result (λ last. then-words _ _ _ (codes "calls" ∷ c.args.server.now ∷ [])
    (counted ((codes "of priority", c.args.priority) ∷ (codes "at priority", c.args.caller) ∷ [])) c.in_ok-append_named.ensures.ok last)
    priorities
