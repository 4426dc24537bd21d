use Rattle.std.proofs.Common.{◌≡◌, ◌∙◌, ◌∷◌, None, Some, ap, subst, sym}
use Rattle.std.proofs.lemmas.Result.{on_ok_weaker}
use Rattle.mcs_verdict.specs.Account.{subject}
use Rattle.mcs_chain.specs.Answers.{gone_after}
use Rattle.mcs_chain.specs.Steps.{goer}
use Rattle.mcs_way.specs.Course.{Course}
use Rattle.mcs_way.specs.Stances.{AreNext, stances_of}
use Rattle.mcs_way.specs.Trail.{goes_on, stood_by}
use Rattle.mcs_way.proofs.Nexts.{carried-next, carried-same}
use Rattle.mcs_way.proofs.Standings.{stances-same}
use Rattle.mcs_way.proofs.trail.go.Goals as goal

-- a row of a thread
pub returns-in_ok-follow-in-Some : goal.returns-in_ok-follow-in-Some
returns-in_ok-follow-in-Some c = λ system past e up effect.
    let course = c.args.course.now in
    let r = c.args.row.now in
    let aim = c.args.aim.now in
    let thread = c.in-Some.thread in
    let own : subject r.what ≡ Some thread = sym c.subject.ensures ∙ c.in-Some.is in
    let next_is : c.follow.new.course ≡ goes_on system aim past r course = c.in_ok-follow-in-Some.ensures system past e up effect in
    let next : AreNext thread r.moment course.carried c.follow.new.course.carried =
    subst (λ (k : Course). AreNext thread r.moment course.carried k.carried) (sym next_is)
    (carried-next system aim (gone_after system past) r (stood_by past r.moment (goer r.what) course) course r.what thread own)
    in
    (next_is, c.stand.ensures course.carried c.follow.new.course.carried past e up own c.since-before.ensures c.since-after.ensures next)

-- a row of none
pub returns-in-None : goal.returns-in-None
returns-in-None c = λ system past e up effect.
    let course = c.args.course.now in
    let r = c.args.row.now in
    let aim = c.args.aim.now in
    let none : subject r.what ≡ None = sym c.subject.ensures ∙ c.in-None.is in
    on_ok_weaker c.follow-in-None.result (λ next.
    let same : c.follow-in-None.new.course.carried ≡ course.carried =
    ap (λ (k : Course). k.carried) next
    ∙ carried-same system aim (gone_after system past) r (stood_by past r.moment (goer r.what) course) course r.what none
    in
    (next, e ∙ sym (stances-same 0 course.carried r past none) ∙ ap (λ spots. stances_of 0 spots (r ∷ past)) (sym same)))
    (c.follow-in-None.ensures system past e up effect)
