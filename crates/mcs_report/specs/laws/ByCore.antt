-- Counting the rows of each core separately.
use Rattle.std.specs.Prelude.{◌≡◌, ◌≢◌, ℕ, ◌+◌, ◌-◌, ◌<◌, ◌≤◌, List, length, get_or, slice_index, fold, flat_map}
use Rattle.std.specs.List.{range_with_len}
use Rattle.mcs_ticks.specs.declared.row.Row.{Row}
use Rattle.mcs_system.specs.System.{System, thread_part, core_of}
use Rattle.mcs_system.specs.WellFormed.{IsWellFormed}
use Rattle.mcs_core.specs.Clock.{rows_of, schedule}
use Rattle.mcs_report.specs.Reports.{reports_of}
use Rattle.mcs_report.specs.Tally.{Tally, no_account, opened_tally, added, finished}
use Rattle.mcs_report.specs.laws.Agreement.{tally_of}

module _ (system : System) where
  -- the core of a thread
  abbrev pub home_of : ℕ → ℕ
  home_of thread = core_of system (thread_part system thread)

  -- the clock's rows of core c from time `first` to before time `past`
  abbrev pub rows_within : ℕ → ℕ → ℕ → List Row
  rows_within c first past = flat_map (rows_of system c) (range_with_len first (past - first))

  -- each core's rows before a time per core were counted: the account of each thread is that of its
  -- core's rows
  pub record CountsUntil (horizon : ℕ) (pasts : List ℕ) (tally : Tally) : Type 0 where
    pub horizon_is : tally.horizon ≡ horizon
    pub cores_are : tally.cores ≡ system.cores
    pub many_are : length tally.accounts ≡ length system.threads
    pub own : (thread : ℕ) → thread < length system.threads →
        get_or tally.accounts thread no_account
        ≡ get_or (tally_of system horizon (rows_within (home_of thread) 0 (slice_index pasts (home_of thread)))).accounts thread no_account

  -- at first no rows were counted
  abbrev pub CountsNone : Type 0
  CountsNone =
      (horizon : ℕ) (pasts : List ℕ) → ((c : ℕ) → c < system.cores → slice_index pasts c ≡ 0)
      → CountsUntil horizon pasts (opened_tally system horizon)

  -- the next rows of a core, from the point reached to a later time, may be counted next,
  -- regardless of the other cores
  abbrev pub CountsMore : Type 0
  CountsMore =
      (horizon c past : ℕ) (pasts later : List ℕ) (tally : Tally) → c < system.cores → slice_index pasts c ≤ past
      → slice_index later c ≡ past → ((b : ℕ) → b < system.cores → b ≢ c → slice_index later b ≡ slice_index pasts b)
      → CountsUntil horizon pasts tally
      → CountsUntil horizon later (fold added tally (rows_within c (slice_index pasts c) past))

  -- when all rows up to the horizon were counted, finishing gives the reports of the schedule
  abbrev pub CountsAll : Type 0
  CountsAll =
      (horizon : ℕ) (pasts : List ℕ) (tally : Tally) → ((c : ℕ) → c < system.cores → slice_index pasts c ≡ horizon + 1)
      → CountsUntil horizon pasts tally → finished tally ≡ reports_of system horizon (schedule system horizon)

-- this holds in every well-formed system
abbrev pub CoresAreCounted : Type 0
CoresAreCounted = (system : System) → IsWellFormed system → CountsNone system × CountsMore system × CountsAll system
