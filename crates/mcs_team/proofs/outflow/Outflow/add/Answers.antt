use Rattle.std.proofs.Common.{◌<◌, arith, subst, sym}
use Rattle.std.specs.Prelude.{slice_index, slice_set}
use Rattle.mcs_merge.specs.Parts.{all_from}
use Rattle.mcs_stretch.specs.Stretch.{rows_between}
use Rattle.mcs_stretch.specs.laws.Merging.{rows_until}
use Rattle.mcs_stretch.proofs.Merging.{order-between}
use Rattle.mcs_team.specs.Flow.{Waits}
use Rattle.mcs_team.proofs.Waiting.{waits-more}
use Rattle.mcs_team.proofs.outflow.Outflow.add.Goals as goal

pub returns-clause-waits : goal.returns-clause-waits
returns-clause-waits g c = λ out fits is.
    let system = g.B.Run.system in
    let holds = g.W.Part.Part.holds in
    let t = c.args.self.now.reached in
    let pasts = c.args.self.now.pasts.items in
    let first = slice_index pasts c.args.core in
    let past = c.args.past in
    let rows = rows_between system c.args.core first past in
    let held =
    c.in-Ok.ensures.added out (all_from t (rows_until system pasts)) rows is.held
    (c.part-part.ensures out rows fits (order-between system c.args.core first past) c.requires.told)
    in
    let within : c.args.core < system.cores = (let many = is.many_are in let known = c.requires.known in omega arith) in
    subst (λ core. Waits holds system g.B.Run.horizon t (slice_set pasts core past) c.add.new.self out) (sym c.core.view_is)
    (waits-more holds system g.B.Run.horizon t pasts c.args.self.now.merger out c.args.core past is within c.requires.in_order c.requires.in_time c.add.new.self held)
