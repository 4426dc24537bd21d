use Rattle.std.proofs.Common.{rules, ◌≡◌, [], IfOk, subst, sym}
use Rattle.std.specs.Arc.{arc_value}
use Rattle.mcs_core.specs.Clock.{schedule}
use Rattle.mcs_verdict.specs.Findings.{UpTo, past_of}
use Rattle.mcs_check.specs.stored.AllFound.{IsAllFound, IsAllSeen}
use Rattle.mcs_check.proofs.AllFound.{found-all, none-found}
use Rattle.mcs_check.proofs.find.find_merged.Goals as goal

pub returns-clause-ok : goal.returns-clause-ok
returns-clause-ok g c =
    let horizon = c.args.options.now.horizon in
    let in_time : UpTo horizon (past_of [] (schedule (arc_value c.args.system.now) c.args.options.now.horizon)) = search rules in
    let held = g.T.Target.contents in
    let here : c.deref-2.result.now ≡ arc_value c.args.system.now = search rules in
    let own = c.deref-2.result.now in
    let seen = subst (λ s. IsAllSeen s c.args.allowed.now c.args.options.now (held c.args.target.now) (held c.find_in_rows.new.target) c.in_ok-seen.seen) (sym here) c.in_ok-seen.ensures.ok in
    subst (λ s. IfOk c.all_found.result (IsAllFound s c.args.allowed.now c.args.options.now (held c.args.target.now) (held c.find_in_rows.new.target))) here
    (found-all own c.args.allowed.now c.args.options.now (held c.args.target.now) (held c.find_in_rows.new.target) c.in_ok-seen.seen seen.text c.all_found.result
    c.all_found.ensures.text c.all_found.ensures.counts c.all_found.ensures.due c.all_found.ensures.slow c.all_found.ensures.unanswered c.all_found.ensures.unended
    c.all_found.ensures.rounds c.all_found.ensures.answers c.all_found.ensures.unjudged c.all_found.ensures.kept seen.counts seen.watch seen.table
    (subst (λ s. UpTo horizon (past_of [] (schedule s horizon))) (sym here) in_time))

pub returns-clause-fault : goal.returns-clause-fault
returns-clause-fault g c =
    let seen = c.in_ok-seen.ensures.ok in
    none-found (arc_value c.args.system.now) c.args.allowed.now c.args.options.now (g.T.Target.contents c.args.target.now) (g.T.Target.contents c.find_in_rows.new.target) c.in_ok-seen.seen seen.text
    c.all_found.result (g.T.Target.has_failed c.find_in_rows.new.target) c.all_found.ensures.fault c.in_ok-seen.ensures.working
