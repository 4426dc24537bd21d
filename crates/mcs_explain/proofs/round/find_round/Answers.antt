use Rattle.std.proofs.Common.{rules, ◌≡◌, [], true, is_ok, subst, sym}
use Rattle.std.specs.Arc.{arc_value}
use Rattle.mcs_core.specs.Clock.{schedule}
use Rattle.mcs_verdict.specs.Findings.{InOrder, UpTo, past_of}
use Rattle.mcs_verdict.specs.Watch.{watch_of}
use Rattle.mcs_why.specs.Search.{trail_of}
use Rattle.mcs_check_run.proofs.Results.{ok-holds}
use Rattle.mcs_explain.proofs.Seekers.{rows-sought}
use Rattle.mcs_explain.proofs.round.find_round.Goals as goal

pub returns-clause-found : goal.returns-clause-found
returns-clause-found g c =
    let horizon = c.args.options.now.horizon in
    let system = arc_value c.args.system.now in
    let shared_is : arc_value c.in_ok-shared.shared ≡ arc_value c.args.system.now = search rules in
    let ordered : InOrder [] (schedule (arc_value c.args.system.now) c.args.options.now.horizon) = search rules in
    let in_time : UpTo c.args.options.now.horizon (past_of [] (schedule (arc_value c.args.system.now) c.args.options.now.horizon)) = search rules in
    let order = subst (λ s. InOrder [] (schedule s horizon)) (sym shared_is) ordered in
    let watch : c.new-seeker.result.watch ≡ watch_of (arc_value c.args.system.now) [] = search rules in
    let search_is : c.new-seeker.result.search ≡ trail_of (arc_value c.args.system.now) c.args.thread c.args.number [] = search rules in
    let done : is_ok c.schedule_to-result.result ≡ true = search rules in
    let given = ok-holds c.schedule_to-result.result done c.schedule_to-result.ensures.given in
    let ended = rows-sought system c.args.thread c.args.number [] (schedule (arc_value c.in_ok-shared.shared) horizon) _ _ (watch, search_is) order given in
    let past = past_of [] (schedule system horizon) in
    let watch_now = subst (λ s. c.schedule_to-result.new.sink.watch ≡ watch_of system (past_of [] (schedule s horizon))) shared_is ended.0 in
    let search_now = subst (λ s. c.schedule_to-result.new.sink.search ≡ trail_of system c.args.thread c.args.number (past_of [] (schedule s horizon))) shared_is ended.1 in
    c.sought.ensures system c.args.thread c.args.number past search_now watch_now in_time c.requires.there
