use Rattle.std.proofs.Common.{◌≡◌, ◌⊎◌, subst}
use Rattle.mcs_system.proofs.Linked.{takes_time}
use Rattle.mcs_ticks.specs.declared.sink.FlowFault.TheVariants as fault
use Rattle.mcs_team.specs.Flow.{FailsFrom}
use Rattle.mcs_team.specs.declared.run.Stop.TheVariants.{Fault, Odd}
use Rattle.mcs_team.proofs.Stopping.{stops-here, waits-in-time}
use Rattle.mcs_team.proofs.rest.go_on_alone.Goals as goal

pub returns-in-Err-clause-stop : goal.returns-in-Err-clause-stop
returns-in-Err-clause-stop g c =
    let system = g.B.Run.system in
    let horizon = g.B.Run.horizon in
    let flow = c.args.flow in
    let out = c.args.out.now in
    let stop = c.stop_at.result in
    stops-here g.W.Part.Out.Sink.takes system horizon (takes_time system c.requires.well_formed) flow.reached out stop
    (waits-in-time g.W.Part.Part.holds system horizon flow.reached flow.pasts.items flow.merger out c.requires.waits c.requires.well_formed.limits.cores.0)
    (subst (λ t. (stop ≡ Fault fault.NoMemory) ⊎ (stop ≡ Odd t)) c.gathered.ensures.same.0 c.stop_at.ensures)

pub flow_rounds-requires-clause-waits : goal.flow_rounds-requires-clause-waits
flow_rounds-requires-clause-waits g c = c.in-Ok.ensures.waits c.args.out.now c.requires.fits c.requires.waits

pub returns-in-Err-flow_rounds-clause-stop : goal.returns-in-Err-flow_rounds-clause-stop
returns-in-Err-flow_rounds-clause-stop g c =
    subst (λ t. FailsFrom g.W.Part.Out.Sink.takes g.B.Run.system g.B.Run.horizon t c.args.out.now c.flow_rounds.new.out c.in-Err-flow_rounds.fault) c.gathered.ensures.same.0 c.in-Err-flow_rounds.ensures.fault
