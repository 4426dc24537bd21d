-- Marks determine which rows have kept up.
use Rattle.std.specs.Prelude.{ℕ, List}
use Rattle.std.specs.List.{AllByRecursion}
use Rattle.mcs_ticks.specs.declared.row.What.{What}
use Rattle.mcs_system.specs.System.{System}
use Rattle.mcs_ever.specs.Later.{Shift, KeepsUp}
use Rattle.mcs_ever.specs.Marks.{marks_of, MarkedKeepUp}
use Rattle.mcs_ever.specs.laws.Home.{IsOfOwn}

-- if no date lags that rows of any cores mark for a core's threads, all rows of that core have kept
-- up
abbrev pub MarksTell : Type 0
MarksTell =
    (system : System) (core : ℕ) (shift : Shift) (rows : List What) → MarkedKeepUp system core shift (marks_of system rows) →
    AllByRecursion (λ what. IsOfOwn system core what → KeepsUp system shift what) rows

-- and the condition is exact: if rows of a core have kept up, no date lags that they mark
abbrev pub MarksAskNoMore : Type 0
MarksAskNoMore =
    (system : System) (core : ℕ) (shift : Shift) (rows : List What) → AllByRecursion (KeepsUp system shift) rows →
    MarkedKeepUp system core shift (marks_of system rows)
