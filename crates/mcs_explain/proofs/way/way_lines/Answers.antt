use Rattle.std.proofs.Common.{rules, ◌≡◌, ◌∙◌, ◌++◌, [], true, ap, ap₂, is_ok, subst, sym}
use Rattle.std.specs.Arc.{arc_value}
use Rattle.mcs_core.specs.Clock.{schedule}
use Rattle.mcs_verdict.specs.Findings.{InOrder, past_of}
use Rattle.mcs_way.specs.Trail.{Trail, trail_of}
use Rattle.mcs_check_lines.specs.Answers.{answer_line}
use Rattle.mcs_explain.specs.Why.{legs_text}
use Rattle.mcs_check_run.proofs.Results.{ok-holds}
use Rattle.mcs_explain.proofs.Followers.{rows-followed}
use Rattle.mcs_explain.proofs.way.way_lines.Goals as goal

pub returns-clause-lines : goal.returns-clause-lines
returns-clause-lines g c =
    let horizon = c.args.options.now.horizon in
    let system = arc_value c.args.system.now in
    let answer = c.args.answer.now in
    let shared_is : arc_value c.in_ok-shared.shared ≡ arc_value c.args.system.now = search rules in
    let ordered : InOrder [] (schedule (arc_value c.args.system.now) c.args.options.now.horizon) = search rules in
    let order = subst (λ s. InOrder [] (schedule s horizon)) (sym shared_is) ordered in
    let own : c.new-follower.result.system.now ≡ arc_value c.args.system.now = search rules in
    let begun : c.new-follower.result.trail ≡ trail_of (arc_value c.args.system.now) c.args.answer.now [] = search rules in
    let done : is_ok c.schedule_to-result.result ≡ true = search rules in
    let given = ok-holds c.schedule_to-result.result done c.schedule_to-result.ensures.given in
    let ended = rows-followed system answer [] (schedule (arc_value c.in_ok-shared.shared) horizon) _ _ (own, begun) order given in
    let trail_now = subst (λ s. c.schedule_to-result.new.sink.trail ≡ trail_of system answer (past_of [] (schedule s horizon))) shared_is ended.1 in
    let how = c.args.options.now.format in
    let way = c.way-way.ensures ∙ ap (λ (t : Trail). t.course.way) trail_now in
    let here : c.deref-4.result.now ≡ arc_value c.args.system.now = search rules in
    let empty : c.new-text.result.items ≡ [] = search rules in
    let put = c.in_ok-put_answer_way.ensures in
    put ∙ ap (λ l. l ++ (answer_line how c.deref-4.result.now answer ++ legs_text how c.deref-4.result.now c.way-way.result.now)) empty
    ∙ ap₂ (λ s legs. answer_line how s answer ++ legs_text how s legs) here way
