use Rattle.std.proofs.Common.{◌∷◌, [], codes}
use Rattle.mcs_text.specs.Text.{thread_name}
use Rattle.mcs_check_lines.specs.Lines.{age_words, late_words, response_words}
use Rattle.mcs_check_lines.proofs.Words.{then-words}
use Rattle.mcs_check_lines.proofs.line.write_finding.Goals as goal

pub returns-in-Miss-clause-written : goal.returns-in-Miss-clause-written
returns-in-Miss-clause-written c =
    let m = c.in-Miss in
    let name = thread_name c.args.system.now m.thread in
    let named = rw (c.thread_name.ensures.name) at c.write_named-name.ensures.written in
    let round = response_words m.number m.response in
    let answered = then-words _ _ _ (codes "miss" ∷ name ∷ []) round named c.write_response-times.ensures.written in
    rw m.is (then-words _ _ _ (codes "miss" ∷ name ∷ round) (late_words m.deadline m.activated m.queued m.stood) answered c.write_late.ensures.written)

pub returns-in-Overdue-clause-written : goal.returns-in-Overdue-clause-written
returns-in-Overdue-clause-written c =
    let o = c.in-Overdue in
    let name = thread_name c.args.system.now o.thread in
    let named = rw (c.thread_name-in-Overdue.ensures.name) at c.write_named-name-in-Overdue.ensures.written in
    let round = age_words o.number o.age in
    let aged = then-words _ _ _ (codes "overdue" ∷ name ∷ []) round named c.write_age-times.ensures.written in
    rw o.is (then-words _ _ _ (codes "overdue" ∷ name ∷ round) (late_words o.deadline o.activated o.queued o.stood) aged
    c.write_late-in-Overdue.ensures.written)
