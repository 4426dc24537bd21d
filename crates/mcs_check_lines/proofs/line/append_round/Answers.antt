use Rattle.std.proofs.Common.{◌∷◌, [], codes}
use Rattle.std.proofs.lemmas.Result.{on_ok_weaker}
use Rattle.mcs_text.specs.Text.{thread_name}
use Rattle.mcs_check_lines.specs.Lines.{job_times}
use Rattle.mcs_check_lines.proofs.Words.{then-words}
use Rattle.mcs_check_lines.proofs.line.append_round.Goals as goal

pub returns-clause-ok : goal.returns-clause-ok
returns-clause-ok c =
    let job = c.args.job.now in
    let name = thread_name c.args.system.now job.thread in
    let named = rw (c.thread_name.ensures.name) at c.in_ok-append_named.ensures.ok in
    on_ok_weaker c.append_times.result (λ last. then-words _ _ _ (codes "job" ∷ name ∷ []) (job_times job) named last) c.append_times.ensures.ok
