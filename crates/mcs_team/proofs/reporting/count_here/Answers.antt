use Rattle.std.proofs.Common.{◌∙◌, ap}
use Rattle.mcs_window.specs.Desk.{Table, taken_of}
use Rattle.mcs_stretch.proofs.Openings.{zero_at}
use Rattle.mcs_team.proofs.reporting.count_here.Goals as goal

pub count_to_end-requires-clause-first : goal.count_to_end-requires-clause-first
count_to_end-requires-clause-first g c = λ k l. ap (λ (desk : Table). taken_of desk k) c.in_ok-desk.ensures ∙ zero_at 64 k
