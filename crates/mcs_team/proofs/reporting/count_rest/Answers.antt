use Rattle.std.proofs.Common.{◌≤◌, ◌∙◌, sym, ap, subst, arith}
use Rattle.mcs_window.specs.Desk.{Table, clock_of, taken_of}
use Rattle.mcs_stretch.proofs.Openings.{zero_at}
use Rattle.mcs_team.proofs.reporting.count_rest.Goals as goal

pub retold-requires-clause-in_order : goal.retold-requires-clause-in_order
retold-requires-clause-in_order g c = λ k l. subst (λ n. n ≤ clock_of c.args.desk k) (sym (zero_at 64 k)) (omega arith)

pub count_to_end-requires-clause-first : goal.count_to_end-requires-clause-first
count_to_end-requires-clause-first g c = λ k l. ap (λ (desk : Table). taken_of desk k) c.retold.ensures ∙ zero_at 64 k
