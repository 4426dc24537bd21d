use Rattle.std.proofs.Common.{◌+◌, ◌∙◌, rules, subst}
use Rattle.mcs_team.specs.Flow.{IsGivenBetween, Waits}
use Rattle.mcs_team.proofs.Giving.{if_err, on_ok}
use Rattle.mcs_team.proofs.Rounds.{given-further}
use Rattle.mcs_team.proofs.Stopping.{stop-further}
use Rattle.mcs_team.proofs.Waiting.{fits-given}
use Rattle.mcs_team.proofs.stream.flow_beside.Goals as goal

pub work_and_give-requires-clause-waits : goal.work_and_give-requires-clause-waits
work_and_give-requires-clause-waits g c =
    let flow = c.in-Ok-new.flow in
    let holds = g.W.Part.Part.holds in
    let waits : Waits holds g.B.Run.system g.B.Run.horizon flow.reached flow.pasts.items flow.merger c.args.out.now =
    subst (λ h. Waits holds g.B.Run.system h flow.reached flow.pasts.items flow.merger c.args.out.now) c.requires.run.1
    (subst (λ s. Waits holds s c.args.plan.now.horizon flow.reached flow.pasts.items flow.merger c.args.out.now) (c.deref-2.ensures ∙ c.requires.run.0)
    (c.in-Ok-new.ensures.waits c.args.out.now c.requires.fits))
    in
    search rules

pub go_on_alone-requires-clause-fits : goal.go_on_alone-requires-clause-fits
go_on_alone-requires-clause-fits g c =
    let takes = g.W.Part.Out.Sink.takes in
    let begun : IsGivenBetween takes g.B.Run.system c.in-Ok-new.flow.reached c.work_and_give.new.flow.reached c.args.out.now c.work_and_give.new.out = c.in_default-work_and_give.ensures.given in
    fits-given g.W.Relay.fits takes g.met.W.Relay.fits_on c.args.relay.now c.args.out.now c.work_and_give.new.out begun.0 c.requires.fits begun.2

pub returns-clause-given : goal.returns-clause-given
returns-clause-given g c =
    let takes = g.W.Part.Out.Sink.takes in
    let system = g.B.Run.system in
    let before = c.args.out.now in
    let middle = c.work_and_give.new.out in
    let reached = c.work_and_give.new.flow.reached in
    let begun : IsGivenBetween takes system 0 reached before middle =
    subst (λ t. IsGivenBetween takes system t reached before middle) c.in-Ok-new.ensures.first c.in_default-work_and_give.ensures.given
    in
    on_ok c.go_on_alone.result (λ more. given-further takes system 0 reached (g.B.Run.horizon + 1) before middle c.go_on_alone.new.out begun more) c.go_on_alone.ensures.given

pub returns-clause-stop : goal.returns-clause-stop
returns-clause-stop g c =
    let takes = g.W.Part.Out.Sink.takes in
    let system = g.B.Run.system in
    let before = c.args.out.now in
    let middle = c.work_and_give.new.out in
    let reached = c.work_and_give.new.flow.reached in
    let begun : IsGivenBetween takes system 0 reached before middle =
    subst (λ t. IsGivenBetween takes system t reached before middle) c.in-Ok-new.ensures.first c.in_default-work_and_give.ensures.given
    in
    if_err c.go_on_alone.result (λ stop stops. stop-further takes system g.B.Run.horizon 0 reached before middle c.go_on_alone.new.out stop begun stops) c.go_on_alone.ensures.stop
