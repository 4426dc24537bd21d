use Rattle.std.proofs.Common.{◌≡◌, rules}
use Rattle.mcs_step.specs.Steps.{IsOver, rows_so_far}
use Rattle.mcs_team.proofs.InStep.{going-first, going-over, going-next, going-refused, holds-told}
use Rattle.mcs_team.proofs.Waiting.{fits-given}
use Rattle.mcs_team.proofs.here.flow_in_step.Goals as goal

pub rounds-init : goal.rounds-init
rounds-init g c = going-first g.W.Part.Out.Sink.takes g.W.Told.Collector.holds c.args.steps c.empty-told.result c.args.out.now c.requires.unused c.empty-told.ensures

pub returns-in_default-give-clause-fault : goal.returns-in_default-give-clause-fault
returns-in_default-give-clause-fault g c =
    let r = c.rounds in
    let takes = g.W.Part.Out.Sink.takes in
    let holds = g.W.Told.Collector.holds in
    let done = c.in-Ok.ensures in
    let fits = fits-given g.W.Relay.fits takes g.met.W.Relay.fits_on c.args.relay.now c.args.out.now r.out (rows_so_far r.steps) c.requires.fits r.invariant.given in
    let held = holds-told takes holds c.args.steps.system c.args.steps.horizon c.args.out.now r.steps r.told r.out r.invariant g.W.Told.Sink.takes g.met.W.Told.Collector.holds_more
    c.go.new.self c.go.new.told done.run.0 done.run.1 done.on_schedule done.told in
    going-refused takes holds c.args.steps.system c.args.steps.horizon c.args.out.now r.steps r.told r.out r.invariant g.W.Told.Sink.takes g.met.W.Told.Collector.holds_more
    c.go.new.self c.go.new.told done.run.0 done.run.1 done.on_schedule done.told c.give.new.out (c.in_default-give.ensures.refused done.told.0 fits held)

pub rounds-preserved : goal.rounds-preserved
rounds-preserved g c =
    let r = c.rounds in
    let takes = g.W.Part.Out.Sink.takes in
    let holds = g.W.Told.Collector.holds in
    let done = c.in-Ok.ensures in
    let fits = fits-given g.W.Relay.fits takes g.met.W.Relay.fits_on c.args.relay.now c.args.out.now r.out (rows_so_far r.steps) c.requires.fits r.invariant.given in
    let held = holds-told takes holds c.args.steps.system c.args.steps.horizon c.args.out.now r.steps r.told r.out r.invariant g.W.Told.Sink.takes g.met.W.Told.Collector.holds_more
    c.go.new.self c.go.new.told done.run.0 done.run.1 done.on_schedule done.told in
    let given = c.in-Ok-give.ensures.given done.told.0 fits held in
    going-next takes holds c.args.steps.system c.args.steps.horizon c.args.out.now r.steps r.told r.out r.invariant g.W.Told.Sink.takes g.met.W.Told.Collector.holds_more
    c.go.new.self c.go.new.told done.run.0 done.run.1 done.on_schedule done.told done.going c.give.new.told c.give.new.out given.1 given.0

pub returns-clause-given : goal.returns-clause-given
returns-clause-given g c =
    let r = c.rounds in
    let over : IsOver r.steps = search rules in
    going-over g.W.Part.Out.Sink.takes g.W.Told.Collector.holds c.args.steps.system c.args.steps.horizon c.args.out.now r.steps r.told r.out r.invariant over
