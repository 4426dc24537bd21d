-- The tallies of all cores. Each has counted the rows of one core.
use Rattle.std.specs.Prelude.{◌≡◌, ℕ, ◌+◌, ◌<◌, List, slice_index, slice_index_or, fold}
use Rattle.mcs_ticks.specs.declared.row.Row.{Row}
use Rattle.mcs_ticks.specs.Given.{Given}
use Rattle.mcs_system.specs.System.{System}
use Rattle.mcs_system.specs.WellFormed.{IsWellFormed}
use Rattle.mcs_core.specs.Clock.{schedule}
use Rattle.mcs_report.specs.Reports.{reports_of}
use Rattle.mcs_report.specs.Tally.{finished}
use Rattle.mcs_report.specs.CoreTally.{CoreTally, core_added, CoreCounts, core_tally_of, joined}
use Rattle.mcs_report.specs.laws.ByCore.{rows_within, CountsUntil}

-- a tally of a core that was given rows has added them, in their order
abbrev pub GivenAreAddedByCore : Type 0
GivenAreAddedByCore =
    (before after : CoreTally) (rows : List Row) → Given CoreCounts before rows after → after ≡ fold core_added before rows

module _ (system : System) (horizon : ℕ) where
  -- each core has its tally, of its rows before a time per core
  abbrev pub AreOfCores : List ℕ → List CoreTally → Type 0
  AreOfCores pasts tallies =
      (c : ℕ) (other : CoreTally) → c < system.cores →
      slice_index_or tallies c other ≡ core_tally_of system c horizon (rows_within system c 0 (slice_index pasts c))

  -- joined, they are as one tally in which the rows of each core were counted separately
  abbrev pub JoinedCount : Type 0
  JoinedCount =
      (pasts : List ℕ) (tallies : List CoreTally) → AreOfCores pasts tallies
      → CountsUntil system horizon pasts (joined system horizon tallies)

  -- when all rows up to the horizon were counted, finishing gives the reports of the schedule
  abbrev pub JoinedGive : Type 0
  JoinedGive =
      (pasts : List ℕ) (tallies : List CoreTally) → ((c : ℕ) → c < system.cores → slice_index pasts c ≡ horizon + 1)
      → AreOfCores pasts tallies
      → finished (joined system horizon tallies) ≡ reports_of system horizon (schedule system horizon)

-- this holds in every well-formed system
abbrev pub CoreTalliesGiveReports : Type 0
CoreTalliesGiveReports =
    (system : System) → IsWellFormed system → (horizon : ℕ) → JoinedCount system horizon × JoinedGive system horizon
