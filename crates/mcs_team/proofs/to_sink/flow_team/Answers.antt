use Rattle.std.proofs.Common.{◌≤◌, ◌+◌, rules}
use Rattle.std.specs.Arc.{arc_value}
use Rattle.mcs_team.specs.Flow.{IsGivenBetween}
use Rattle.mcs_team.proofs.Giving.{on_ok}
use Rattle.mcs_team.proofs.Rounds.{given-further, given-whole}
use Rattle.mcs_team.proofs.Waiting.{fits-given}
use Rattle.mcs_team.proofs.to_sink.flow_team.Goals as goal

pub simulate_again-requires-clause-fits : goal.simulate_again-requires-clause-fits
simulate_again-requires-clause-fits g c =
    let takes = g.W.Part.Out.Sink.takes in
    let begun : (c.in-Odd.from ≤ c.args.plan.horizon + 1) × IsGivenBetween takes (arc_value c.args.plan.system) 0 c.in-Odd.from c.args.out.now c.flow_beside.new.out = search rules in
    let given : IsGivenBetween takes (arc_value c.args.plan.system) 0 c.in-Odd.from c.args.out.now c.flow_beside.new.out = begun.1 in
    fits-given g.W.Relay.fits takes g.met.W.Relay.fits_on c.args.relay.now c.args.out.now c.flow_beside.new.out given.0 c.requires.fits given.2

pub returns-in-Odd-clause-given : goal.returns-in-Odd-clause-given
returns-in-Odd-clause-given g c =
    let takes = g.W.Part.Out.Sink.takes in
    let system = arc_value c.args.plan.system in
    let horizon = c.args.plan.horizon in
    let before = c.args.out.now in
    let middle = c.flow_beside.new.out in
    let after = c.simulate_again.new.out in
    let begun : (c.in-Odd.from ≤ horizon + 1) × IsGivenBetween takes system 0 c.in-Odd.from before middle = search rules in
    on_ok c.simulate_again.result
    (λ more. given-whole takes system horizon before after (given-further takes system 0 c.in-Odd.from (horizon + 1) before middle after begun.1 more))
    c.simulate_again.ensures.given
