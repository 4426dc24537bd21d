-- A tally that was given rows, one by one.
use Rattle.std.specs.Prelude.{◌≡◌, List, fold}
use Rattle.mcs_ticks.specs.declared.row.Row.{Row}
use Rattle.mcs_ticks.specs.Given.{Given}
use Rattle.mcs_report.specs.Tally.{Tally, added, Counts}

-- it has added these rows, in their order
abbrev pub GivenAreAdded : Type 0
GivenAreAdded = (before after : Tally) (rows : List Row) → Given Counts before rows after → after ≡ fold added before rows
