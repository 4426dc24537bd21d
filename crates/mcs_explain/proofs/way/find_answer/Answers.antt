use Rattle.std.proofs.Common.{rules, ◌≡◌, [], true, is_ok, subst}
use Rattle.std.specs.Arc.{arc_value}
use Rattle.mcs_core.specs.Clock.{schedule}
use Rattle.mcs_verdict.specs.Findings.{past_of}
use Rattle.mcs_way.specs.Sought.{search_of}
use Rattle.mcs_check_run.proofs.Results.{ok-holds}
use Rattle.mcs_explain.proofs.AnswerSeekers.{rows-sought}
use Rattle.mcs_explain.proofs.way.find_answer.Goals as goal

pub returns-clause-found : goal.returns-clause-found
returns-clause-found g c =
    let horizon = c.args.options.now.horizon in
    let system = arc_value c.args.system.now in
    let shared_is : arc_value c.in_ok-shared.shared ≡ arc_value c.args.system.now = search rules in
    let own : c.new-seeker.result.system.now ≡ arc_value c.args.system.now = search rules in
    let begun : c.new-seeker.result.search ≡ search_of (arc_value c.args.system.now) c.args.chain c.args.number [] = search rules in
    let done : is_ok c.schedule_to-result.result ≡ true = search rules in
    let given = ok-holds c.schedule_to-result.result done c.schedule_to-result.ensures.given in
    let ended = rows-sought system c.args.chain c.args.number [] (schedule (arc_value c.in_ok-shared.shared) horizon) _ _ (own, begun) given in
    let past = past_of [] (schedule system horizon) in
    let search_now = subst (λ s. c.schedule_to-result.new.sink.search ≡ search_of system c.args.chain c.args.number (past_of [] (schedule s horizon))) shared_is ended.1 in
    c.sought.ensures system c.args.chain c.args.number past search_now
