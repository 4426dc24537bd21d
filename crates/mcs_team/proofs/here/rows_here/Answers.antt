use Rattle.std.proofs.Common.{◌∙◌, ap, ◌++◌}
use Rattle.std.specs.Arc.{arc_value}
use Rattle.mcs_core.specs.Clock.{schedule}
use Rattle.mcs_team.proofs.Sinks.{keeps}
use Rattle.mcs_team.proofs.here.rows_here.Goals as goal

pub returns : goal.returns
returns c =
    let all = schedule (arc_value c.args.system) c.args.horizon in
    keeps c.new-kept.result c.flow_here.new.out all c.in-Ok.ensures.given ∙ ap (λ xs. xs ++ all) c.new-kept.ensures
