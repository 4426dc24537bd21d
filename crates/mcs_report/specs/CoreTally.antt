-- A tally of one core's rows: the accounts of that core's threads only.
use Rattle.std.specs.Prelude.{◌≡◌, ℕ, Bool, true, List, [], map, fold, get_or, length}
use Rattle.std.specs.List.{range_with_len}
use Rattle.mcs_ticks.specs.declared.row.Row.{Row}
use Rattle.mcs_system.specs.System.{System, thread_part, core_of}
use Rattle.mcs_report.specs.declared.account.Account.{Account}
use Rattle.mcs_report.specs.Tally.{Tally, opened, no_account, told_at}
use Rattle.mcs_report.specs.Places.{threads_on, place_of, place_on}

-- the counts of each thread of a core, in order
pub record CoreTally : Type 0 where
  pub system : System
  pub core : ℕ
  pub horizon : ℕ
  pub accounts : List Account

-- before the first row
abbrev pub opened_on : System → ℕ → List Account
opened_on system c = map (λ thread. opened (core_of system thread) thread.deadline) (threads_on system c)

abbrev pub opened_core_tally : System → ℕ → ℕ → CoreTally
opened_core_tally system c horizon =
    record {
      system = system;
      core = c;
      horizon = horizon;
      accounts = opened_on system c;
    }

-- a further row
abbrev pub core_added : CoreTally → Row → CoreTally
core_added tally r =
    record tally {
      accounts = told_at (place_on tally.system tally.core) tally.horizon r.moment r.what tally.accounts;
    }

-- how a core's tally takes a row: it counts it if it is of one of its threads, and refuses none
abbrev pub CoreCounts : CoreTally → Row → Bool → CoreTally → Type 0
CoreCounts before row taken after = (taken ≡ true) × (after ≡ core_added before row)

-- the tally of core c for these rows
abbrev pub core_tally_of : System → ℕ → ℕ → List Row → CoreTally
core_tally_of system c horizon rows = fold core_added (opened_core_tally system c horizon) rows

-- the rows that the tally was given
abbrev pub HoldsRows : CoreTally → List Row → Type 0
HoldsRows tally rows = tally ≡ core_tally_of tally.system tally.core tally.horizon rows

-- the accounts of core c are in its tally
abbrev pub accounts_of : List CoreTally → ℕ → List Account
accounts_of tallies c = get_or (map (λ tally. tally.accounts) tallies) c []

-- the account of a thread among them, at its index
abbrev pub account_of : System → List CoreTally → ℕ → Account
account_of system tallies thread =
    get_or (accounts_of tallies (core_of system (thread_part system thread))) (place_of system thread) no_account

-- the tallies of all cores joined
abbrev pub joined : System → ℕ → List CoreTally → Tally
joined system horizon tallies =
    record {
      horizon = horizon;
      cores = system.cores;
      last = 0;
      accounts = map (account_of system tallies) (range_with_len 0 (length system.threads));
    }
