use Rattle.std.proofs.Common.{◌∙◌, ap}
use Rattle.std.specs.Prelude.{slice_index}
use Rattle.mcs_stretch.proofs.Openings.{zero_at}
use Rattle.mcs_window.specs.Desk.{Table}
use Rattle.mcs_team.proofs.rest.desk_at_end.Goals as goal

pub returns-clause-taken : goal.returns-clause-taken
returns-clause-taken c = λ core.
    ap (λ xs. slice_index xs core) (c.in_ok-go.ensures.later.taken_are ∙ ap (λ (desk : Table). desk.taken) c.in_ok-desk.ensures) ∙ zero_at 64 core
