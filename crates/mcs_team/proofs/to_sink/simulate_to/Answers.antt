use Rattle.std.proofs.Common.{◌≡◌, refl, subst, rules}
use Rattle.std.specs.Arc.{arc_value}
use Rattle.mcs_system.specs.System.{System}
use Rattle.mcs_system.specs.WellFormed.{IsWellFormed}
use Rattle.mcs_core.specs.Clock.{schedule}
use Rattle.mcs_ticks.specs.Given.{Given}
use Rattle.mcs_team.specs.Flow.{IsFlowFault}
use Rattle.mcs_team.proofs.Headlines.{reported, within, whole-headline}
use Rattle.mcs_team.proofs.Sinks.{at-sink, counted-fault, counted-given}
use Rattle.mcs_team.proofs.to_sink.simulate_to.Goals as goal

pub returns-in-Err-clause-fault : goal.returns-in-Err-clause-fault
returns-in-Err-clause-fault g c =
    let system : System = arc_value c.args.system in
    let last = c.schedule_to.new.sink in
    let ended = counted-fault g.S.Sink.takes system c.args.horizon c.new-counted.result last c.in-Err.fault c.in-Err.ensures.fault in
    let sink_is : c.schedule_to.new.sink.sink.ghost_name ≡ c.new-counted.result.sink.ghost_name = ended.0.0 in
    let tally_is : c.schedule_to.new.sink.tally.ghost_name ≡ c.new-counted.result.tally.ghost_name = ended.0.1 in
    at-sink (λ w. IsFlowFault g.S.Sink.takes system c.args.horizon c.args.sink.now w c.in-Err.fault) last.sink.now _ (search rules)
    (subst (λ w. IsFlowFault g.S.Sink.takes system c.args.horizon w last.sink.now c.in-Err.fault) c.new-counted.ensures.sink_now ended.1)

pub returns-clause-given : goal.returns-clause-given
returns-clause-given g c =
    let all = schedule (arc_value c.args.system) c.args.horizon in
    let last = c.schedule_to.new.sink in
    let ended = counted-given g.S.Sink.takes c.new-counted.result last all c.in_default-schedule_to.ensures.given in
    let sink_is : c.schedule_to.new.sink.sink.ghost_name ≡ c.new-counted.result.sink.ghost_name = ended.0.0 in
    let tally_is : c.schedule_to.new.sink.tally.ghost_name ≡ c.new-counted.result.tally.ghost_name = ended.0.1 in
    at-sink (λ w. Given g.S.Sink.takes c.args.sink.now all w) last.sink.now _ (search rules)
    (subst (λ w. Given g.S.Sink.takes w all last.sink.now) c.new-counted.ensures.sink_now ended.1)

pub returns-clause-reports : goal.returns-clause-reports
returns-clause-reports g c =
    let system : System = arc_value c.args.system in
    let first = c.new-counted.result in
    let last = c.schedule_to.new.sink in
    let well : IsWellFormed (arc_value c.args.system) = search rules in
    let ended = counted-given g.S.Sink.takes first last (schedule system c.args.horizon) c.in_default-schedule_to.ensures.given in
    let sink_is : c.schedule_to.new.sink.sink.ghost_name ≡ c.new-counted.result.sink.ghost_name = ended.0.0 in
    let tally_is : c.schedule_to.new.sink.tally.ghost_name ≡ c.new-counted.result.tally.ghost_name = ended.0.1 in
    reported system c.args.horizon first.tally.now last.tally.now c.finish.result c.schedules_are_reported.ensures well
    (search rules) ended.2 (search rules)

pub returns-clause-demand : goal.returns-clause-demand
returns-clause-demand g c =
    let well : IsWellFormed (arc_value c.args.system) = search rules in
    within (arc_value c.args.system) c.args.horizon c.finish.result c.demand_is_bounded.ensures well (returns-clause-reports g c)

pub returns-clause-headline : goal.returns-clause-headline
returns-clause-headline g c =
    let well : IsWellFormed (arc_value c.args.system) = search rules in
    whole-headline (arc_value c.args.system) c.args.horizon (schedule (arc_value c.args.system) c.args.horizon) c.finish.result well refl (returns-clause-reports g c)
