use Rattle.std.proofs.Common.{◌≡◌, ◌≢◌, ◌∙◌, ap, min, rules, subst, sym}
use Rattle.std.specs.Prelude.{fold}
use Rattle.mcs_system.proofs.Linked.{takes_time}
use Rattle.mcs_ticks.specs.declared.sink.FlowFault.TheVariants as fault
use Rattle.mcs_team.specs.Flow.{FailsFrom, IsClear, IsGivenBetween}
use Rattle.mcs_team.proofs.Rounds.{clear-later, fewer-left, given-further, fails-further, round-stops, rounds-end}
use Rattle.mcs_team.proofs.Waiting.{fits-given}
use Rattle.mcs_team.proofs.here.flow_rounds.Goals as goal

pub returns-in_default-clause-fault : goal.returns-in_default-clause-fault
returns-in_default-clause-fault g c =
    let r = c.rounds in
    round-stops g.W.Part.Out.Sink.takes g.W.Part.Part.holds g.B.Run.system g.B.Run.horizon (takes_time g.B.Run.system c.requires.well_formed) c.requires.well_formed.limits.cores.0
    c.args.flow.reached c.args.out.now r.desk r.flow.pasts.items r.flow.merger r.flow.reached r.flow.end r.out r.invariant

pub gather-requires : goal.gather-requires
gather-requires g c =
    let r = c.rounds in
    record { clear = clear-later g.B.Run.system g.B.Run.horizon r.desk r.flow.pasts.items r.flow.end r.invariant.clear c.go.new.self c.in-Ok.ensures.later }

pub returns-in_default-gather-clause-fault : goal.returns-in_default-gather-clause-fault
returns-in_default-gather-clause-fault g c =
    let r = c.rounds in
    round-stops g.W.Part.Out.Sink.takes g.W.Part.Part.holds g.B.Run.system g.B.Run.horizon (takes_time g.B.Run.system c.requires.well_formed) c.requires.well_formed.limits.cores.0
    c.args.flow.reached c.args.out.now r.desk r.flow.pasts.items r.flow.merger r.flow.reached r.flow.end r.out r.invariant

pub pour-requires-clause-waits : goal.pour-requires-clause-waits
pour-requires-clause-waits g c =
    let r = c.rounds in
    c.in-Ok-gather.ensures.waits r.out
    (fits-given g.W.Relay.fits g.W.Part.Out.Sink.takes g.met.W.Relay.fits_on c.args.relay.now c.args.out.now r.out r.invariant.given.0 c.requires.fits r.invariant.given.2)
    r.invariant.waits

pub returns-in_default-pour-clause-fault : goal.returns-in_default-pour-clause-fault
returns-in_default-pour-clause-fault g c =
    let r = c.rounds in
    let takes = g.W.Part.Out.Sink.takes in
    fails-further takes g.B.Run.system g.B.Run.horizon c.args.flow.reached r.flow.reached c.args.out.now r.out c.pour.new.out fault.Sink r.invariant.given
    (subst (λ t. FailsFrom takes g.B.Run.system g.B.Run.horizon t r.out c.pour.new.out fault.Sink) c.gather.ensures.same.0 c.in_default-pour.ensures.refused)

pub rounds-smaller : goal.rounds-smaller
rounds-smaller g c =
    let r = c.rounds in
    let more : r.flow.reached ≢ r.flow.end = search rules in
    rw c.pour.ensures.same.1
    (fewer-left g.B.Run.system g.B.Run.horizon r.desk r.flow.pasts.items r.flow.end r.invariant.clear c.go.new.self c.in-Ok.ensures.later
    c.gather.new.desk c.gather.new.self.pasts.items c.gather.new.self.end c.in-Ok-gather.ensures.clocks c.in-Ok-gather.ensures.clear c.gather.ensures.desk
    r.flow.reached c.pour.new.self.reached c.gather.ensures.same.1 more
    (c.in-Ok-pour.ensures.reached ∙ ap (λ end. fold min end c.gather.new.self.pasts.items) c.gather.ensures.same.1) c.in-Ok.ensures.fewer)

pub rounds-preserved : goal.rounds-preserved
rounds-preserved g c =
    let r = c.rounds in
    let takes = g.W.Part.Out.Sink.takes in
    let system = g.B.Run.system in
    record {
      clear =
          subst (λ end. IsClear system g.B.Run.horizon c.gather.new.desk c.pour.new.self.pasts.items end) (sym c.pour.ensures.same.1)
          (subst (λ pasts. IsClear system g.B.Run.horizon c.gather.new.desk pasts c.gather.new.self.end) (sym c.pour.ensures.same.0) c.in-Ok-gather.ensures.clear);
      waits = c.in-Ok-pour.ensures.waits;
      given =
          given-further takes system c.args.flow.reached r.flow.reached c.pour.new.self.reached c.args.out.now r.out c.pour.new.out r.invariant.given
          (subst (λ t. IsGivenBetween takes system t c.pour.new.self.reached r.out c.pour.new.out) c.gather.ensures.same.0 c.in-Ok-pour.ensures.given);
    }

pub returns-clause-given : goal.returns-clause-given
returns-clause-given g c =
    let r = c.rounds in
    let over : r.flow.reached ≡ r.flow.end = search rules in
    rounds-end g.W.Part.Out.Sink.takes g.W.Part.Part.holds g.B.Run.system g.B.Run.horizon (takes_time g.B.Run.system c.requires.well_formed) c.requires.well_formed.limits.cores.0
    c.args.flow.reached c.args.out.now r.desk r.flow.pasts.items r.flow.merger r.flow.reached r.flow.end r.out r.invariant over
