use Rattle.std.proofs.Common.{◌∙◌}
use Rattle.mcs_table.proofs.Ranges.{counts-first}
use Rattle.mcs_table.proofs.counts.no_counts.Goals as goal

pub returns : goal.returns
returns c = c.in_ok-vec.ensures.items_if_clones_equal (λ y e. e) ∙ counts-first c.args.notes
