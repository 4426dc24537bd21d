use Rattle.std.proofs.Common.{◌∷◌, [], codes, decimal}
use Rattle.std.proofs.lemmas.Result.{on_ok_weaker}
use Rattle.mcs_check_lines.specs.Chains.{due_words}
use Rattle.mcs_check_lines.proofs.Words.{then-words}
use Rattle.mcs_check_lines.proofs.chain_line.append_slow.Goals as goal

pub returns-clause-ok : goal.returns-clause-ok
returns-clause-ok c =
    let name = c.args.name.now in
    let latency = codes "latency" ∷ decimal c.args.latency ∷ [] in
    let answered = then-words _ _ _ (codes "slow" ∷ name ∷ []) latency c.in_ok-append_named.ensures.ok c.in_ok-append_counts.ensures.ok in
    on_ok_weaker c.append_due.result (λ last. then-words _ _ _ (codes "slow" ∷ name ∷ latency) (due_words c.args.deadline c.args.origin) answered last)
    c.append_due.ensures.ok
