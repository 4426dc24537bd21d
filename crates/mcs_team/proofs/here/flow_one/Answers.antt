use Rattle.std.proofs.Common.{◌≡◌, ◌+◌, ◌-◌, ◌<◌, ◌≤◌, ◌∙◌, ap, arith, rules, sym}
use Rattle.mcs_system.proofs.Linked.{takes_time}
use Rattle.mcs_system.specs.System.{System}
use Rattle.mcs_core.specs.Clock.{clock}
use Rattle.mcs_stretch.specs.Stretch.{rows_between}
use Rattle.mcs_window.specs.Desk.{clock_of, taken_of}
use Rattle.mcs_team.proofs.OneCore.{beyond, between-next, between-refused, fewer-left, given-all, given-some}
use Rattle.mcs_team.proofs.Waiting.{fits-given}
use Rattle.mcs_team.proofs.here.flow_one.Goals as goal

pub returns-in_default-clause-fault : goal.returns-in_default-clause-fault
returns-in_default-clause-fault g c =
    let r = c.rounds in
    given-some c.args.desk.system (takes_time c.args.desk.system c.requires.well_formed) g.W.Part.Out.Sink.takes c.args.desk.horizon c.args.out.now r.out r.reached
    r.invariant.given r.invariant.early

pub returns-in_default-give-clause-fault : goal.returns-in_default-give-clause-fault
returns-in_default-give-clause-fault g c =
    let r = c.rounds in
    let ran = c.go.new.self in
    let takes = g.W.Part.Out.Sink.takes in
    let system = c.args.desk.system in
    let in_order : taken_of ran 0 ≤ clock_of ran 0 = (let v = c.taken-taken.ensures.value in let o = c.taken-taken.ensures.in_order in omega arith) in
    between-refused takes g.W.Told.Collector.holds system c.args.desk.horizon c.args.out.now r.desk r.reached r.room r.out r.invariant c.requires.one
    (takes_time system c.requires.well_formed) ran c.in-Ok.ensures.later c.clock-reached.result c.clock-reached.ensures.value c.clock-reached.ensures.in_time in_order
    c.give.new.out
    (c.in_default-give.ensures.refused (rows_between ran.system 0 (taken_of ran 0) (clock_of ran 0))
    (fits-given g.W.Relay.fits takes g.met.W.Relay.fits_on c.args.relay.now c.args.out.now r.out (clock system r.reached).rows c.requires.fits r.invariant.given)
    c.take-told.ensures.rows)

pub rounds-smaller : goal.rounds-smaller
rounds-smaller g c =
    let r = c.rounds in
    let more : r.reached ≤ c.horizon-horizon.result = search rules in
    let same : r.desk.horizon ≡ c.args.desk.horizon = r.invariant.horizon_is in
    let last : c.horizon-horizon.result ≡ c.args.desk.horizon = c.horizon-horizon.ensures.value in
    let fewer : r.desk.horizon + 1 - c.clock-reached.result < r.desk.horizon + 1 - r.reached =
    fewer-left r.desk c.go.new.self (ap (λ (x : System). x.cores) r.invariant.system_is ∙ c.requires.one) c.in-Ok.ensures.later r.reached c.clock-reached.result
    r.invariant.clock_is c.clock-reached.ensures.value (omega arith) c.in-Ok.ensures.fewer in
    let less : c.args.desk.horizon + 1 - c.clock-reached.result < c.args.desk.horizon + 1 - r.reached = omega arith in
    less

pub rounds-preserved : goal.rounds-preserved
rounds-preserved g c =
    let r = c.rounds in
    let ran = c.go.new.self in
    let takes = g.W.Part.Out.Sink.takes in
    let system = c.args.desk.system in
    let in_order : taken_of ran 0 ≤ clock_of ran 0 = (let v = c.taken-taken.ensures.value in let o = c.taken-taken.ensures.in_order in omega arith) in
    let given =
    c.in-Ok-give.ensures.given (rows_between ran.system 0 (taken_of ran 0) (clock_of ran 0))
    (fits-given g.W.Relay.fits takes g.met.W.Relay.fits_on c.args.relay.now c.args.out.now r.out (clock system r.reached).rows c.requires.fits r.invariant.given)
    c.take-told.ensures.rows
    in
    between-next takes g.W.Told.Collector.holds system c.args.desk.horizon c.args.out.now r.desk r.reached r.room r.out r.invariant c.requires.one
    (takes_time system c.requires.well_formed) ran c.in-Ok.ensures.later c.clock-reached.result c.clock-reached.ensures.value c.clock-reached.ensures.in_time in_order
    c.take-told.new.self c.take-told.ensures.taken c.give.new.told given.1 c.give.new.out given.0

pub returns-clause-given : goal.returns-clause-given
returns-clause-given g c =
    let r = c.rounds in
    let past : c.horizon-horizon.result < r.reached = beyond r.reached c.horizon-horizon.result (sym c.le.ensures ∙ c.rounds-test.false) in
    let last : c.horizon-horizon.result ≡ c.args.desk.horizon = c.horizon-horizon.ensures.value in
    let early : r.reached ≤ c.args.desk.horizon + 1 = r.invariant.early in
    given-all c.args.desk.system (takes_time c.args.desk.system c.requires.well_formed) g.W.Part.Out.Sink.takes c.args.desk.horizon c.args.out.now r.out r.reached
    r.invariant.given (omega arith)
