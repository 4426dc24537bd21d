-- A tally that was given rows has added them.
use Rattle.std.proofs.Common.{◌≡◌, List, [], ◌∷◌, sym, ap, ◌∙◌}
use Rattle.std.specs.Prelude.{fold}
use Rattle.mcs_ticks.specs.declared.row.Row.{Row}
use Rattle.mcs_ticks.specs.Given.{Given}
use Rattle.mcs_report.specs.Tally.{Tally, added, Counts}

pub given_to_a_tally : (before after : Tally) (rows : List Row) → Given Counts before rows after → after ≡ fold added before rows
given_to_a_tally before after [] g = sym g
given_to_a_tally before after (row ∷ rows) g =
    given_to_a_tally g.0 after rows g.2 ∙ ap (λ tally. fold added tally rows) g.1.1
