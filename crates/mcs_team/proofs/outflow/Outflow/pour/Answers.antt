use Rattle.std.proofs.Common.{◌≡◌, ◌+◌, min, rules}
use Rattle.std.specs.Prelude.{fold}
use Rattle.mcs_merge.specs.Parts.{all_from}
use Rattle.mcs_stretch.specs.laws.Merging.{rows_until}
use Rattle.mcs_system.proofs.Linked.{takes_time}
use Rattle.mcs_team.proofs.Giving.{on_err}
use Rattle.mcs_team.proofs.Waiting.{waits-in-order, waits-poured, is-given, fails}
use Rattle.mcs_team.proofs.outflow.Outflow.pour.Goals as goal

pub returns-in_err-pour_before-clause-refused : goal.returns-in_err-pour_before-clause-refused
returns-in_err-pour_before-clause-refused g c =
    let system = g.B.Run.system in
    let t = c.args.self.now.reached in
    let pasts = c.args.self.now.pasts.items in
    let lists = all_from t (rows_until system pasts) in
    let least : c.least-reached.result ≡ fold min (g.B.Run.horizon + 1) pasts = search rules in
    on_err c.from_residual.result
    (fails g.W.Part.Part.holds system g.B.Run.horizon g.W.Part.Out.Sink.takes (takes_time system c.requires.well_formed) c.requires.well_formed.limits.cores.0
    t pasts c.args.self.now.merger c.args.out.now c.requires.waits c.least-reached.result least c.pour_before.new.out
    (c.in_err-pour_before.ensures.refused lists (waits-in-order system t pasts) c.requires.waits.held))

pub returns-clause-waits : goal.returns-clause-waits
returns-clause-waits g c =
    let system = g.B.Run.system in
    let t = c.args.self.now.reached in
    let pasts = c.args.self.now.pasts.items in
    let lists = all_from t (rows_until system pasts) in
    let least : c.least-reached.result ≡ fold min (g.B.Run.horizon + 1) pasts = search rules in
    waits-poured g.W.Part.Part.holds system g.B.Run.horizon g.W.Part.Out.Sink.takes (takes_time system c.requires.well_formed) c.requires.well_formed.limits.cores.0
    t pasts c.args.self.now.merger c.args.out.now c.requires.waits c.least-reached.result least c.pour_before.new.self c.pour_before.new.out
    (c.in_ok-pour_before.ensures.given lists (waits-in-order system t pasts) c.requires.waits.held).1

pub returns-clause-given : goal.returns-clause-given
returns-clause-given g c =
    let system = g.B.Run.system in
    let t = c.args.self.now.reached in
    let pasts = c.args.self.now.pasts.items in
    let lists = all_from t (rows_until system pasts) in
    let least : c.least-reached.result ≡ fold min (g.B.Run.horizon + 1) pasts = search rules in
    is-given g.W.Part.Part.holds system g.B.Run.horizon g.W.Part.Out.Sink.takes (takes_time system c.requires.well_formed) c.requires.well_formed.limits.cores.0
    t pasts c.args.self.now.merger c.args.out.now c.requires.waits c.least-reached.result least c.pour_before.new.out
    (c.in_ok-pour_before.ensures.given lists (waits-in-order system t pasts) c.requires.waits.held).0
