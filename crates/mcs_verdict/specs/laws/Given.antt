-- A finder that took rows, one by one.
use Rattle.std.specs.Prelude.{◌≡◌, Bool, List, ◌++◌}
use Rattle.mcs_ticks.specs.declared.row.Row.{Row}
use Rattle.mcs_ticks.specs.Given.{Given}
use Rattle.mcs_system.specs.System.{System}
use Rattle.mcs_verdict.specs.declared.finder.Finder.{Finder}
use Rattle.mcs_verdict.specs.Findings.{InOrder, past_of, found_in}
use Rattle.mcs_verdict.specs.Watch.{watch_of}
use Rattle.mcs_verdict.specs.Found.{Finds}

abbrev pub FindsRow : Finder → Row → Bool → Finder → Type 0
FindsRow before r taken after = Finds before.watch before.found.items r taken after.watch after.found.items

-- if they come in order, it has seen these rows and kept their findings
abbrev pub GivenAreFound : Type 0
GivenAreFound =
    (system : System) (past rows : List Row) (before after : Finder) → Given FindsRow before rows after → InOrder past rows
    → before.watch ≡ watch_of system past
    → (after.watch ≡ watch_of system (past_of past rows)) × (after.found.items ≡ before.found.items ++ found_in system past rows)
