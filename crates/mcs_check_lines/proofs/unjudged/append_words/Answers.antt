use Rattle.std.proofs.Common.{◌∷◌, [], codes}
use Rattle.std.proofs.lemmas.Result.{on_ok_weaker}
use Rattle.mcs_text.specs.Text.{thread_name}
use Rattle.mcs_check_lines.specs.Unjudged.{time_words}
use Rattle.mcs_check_lines.proofs.Words.{then-words}
use Rattle.mcs_check_lines.proofs.unjudged.append_words.Goals as goal

pub returns-clause-ok : goal.returns-clause-ok
returns-clause-ok c =
    let unjudged = c.args.unjudged.now in
    let name = thread_name c.args.system.now unjudged.thread in
    let named = rw (c.thread_name.ensures.name) at c.in_ok-append_named.ensures.ok in
    on_ok_weaker c.append_times.result (λ last. then-words _ _ _ (codes "unjudged" ∷ name ∷ []) (time_words unjudged.deadline unjudged.activated) named last)
    c.append_times.ensures.ok
