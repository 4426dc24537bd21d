use Rattle.std.proofs.Common.{refl, subst, ◌∙◌}
use Rattle.mcs_system.proofs.Linked.{takes_time}
use Rattle.mcs_team.specs.Flow.{IsGivenBetween, IsStop}
use Rattle.mcs_team.proofs.Rounds.{given-none, given-further, stops-at}
use Rattle.mcs_team.proofs.Stopping.{stop-further, waits-in-time}
use Rattle.mcs_team.proofs.Waiting.{fits-given}
use Rattle.mcs_team.proofs.stream.give_out.Goals as goal

pub returns-in_default-clause-stop : goal.returns-in_default-clause-stop
returns-in_default-clause-stop g c =
    let system = g.B.Run.system in
    let horizon = g.B.Run.horizon in
    let flow = c.args.flow.now in
    let out = c.args.out.now in
    stops-at g.W.Part.Out.Sink.takes system horizon (takes_time system c.requires.well_formed) flow.reached out
    (waits-in-time g.W.Part.Part.holds system horizon flow.reached flow.pasts.items flow.merger out c.requires.waits c.requires.well_formed.limits.cores.0)

pub loop-init : goal.loop-init
loop-init g c = (
  tt,
  tt,
  refl,
  record { waits = c.requires.waits; given = given-none g.W.Part.Out.Sink.takes g.B.Run.system c.args.flow.now.reached c.args.out.now },
)

pub give-requires-clause-fits : goal.give-requires-clause-fits
give-requires-clause-fits g c =
    let given = c.loop.invariant.3.given in
    fits-given g.W.Relay.fits g.W.Part.Out.Sink.takes g.met.W.Relay.fits_on c.args.relay.now c.args.out.now c.loop.out given.0 c.requires.fits given.2

pub returns-in-Err-clause-stop : goal.returns-in-Err-clause-stop
returns-in-Err-clause-stop g c =
    let takes = g.W.Part.Out.Sink.takes in
    let system = g.B.Run.system in
    let horizon = g.B.Run.horizon in
    let r = c.loop in
    stop-further takes system horizon c.args.flow.now.reached r.flow.reached c.args.out.now r.out c.give.new.out c.in-Err.stop r.invariant.3.given
    (subst (λ t. IsStop takes system horizon t r.out c.give.new.out c.in-Err.stop) c.fill.ensures.same.0 c.in-Err.ensures.stop)

pub returns-then-is_over-clause-given : goal.returns-then-is_over-clause-given
returns-then-is_over-clause-given g c =
    let takes = g.W.Part.Out.Sink.takes in
    let system = g.B.Run.system in
    let r = c.loop in
    given-further takes system c.args.flow.now.reached r.flow.reached c.give.new.flow.reached c.args.out.now r.out c.give.new.out r.invariant.3.given
    (subst (λ t. IsGivenBetween takes system t c.give.new.flow.reached r.out c.give.new.out) c.fill.ensures.same.0 c.in_default-give.ensures.given)

pub loop-preserved : goal.loop-preserved
loop-preserved g c =
    let takes = g.W.Part.Out.Sink.takes in
    let system = g.B.Run.system in
    let r = c.loop in (
      tt,
      tt,
      c.give.ensures.end ∙ c.fill.ensures.same.1 ∙ r.invariant.2,
      record {
        waits = c.in_default-give.ensures.waits;
        given =
            given-further takes system c.args.flow.now.reached r.flow.reached c.give.new.flow.reached c.args.out.now r.out c.give.new.out r.invariant.3.given
            (subst (λ t. IsGivenBetween takes system t c.give.new.flow.reached r.out c.give.new.out) c.fill.ensures.same.0 c.in_default-give.ensures.given);
      },
    )
