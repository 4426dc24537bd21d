-- A tally of the rows so far: one step per row, and the reports at the end.
use Rattle.std.specs.Prelude.{◌≡◌, ℕ, ◌+◌, ◌-◌, min, max, ◌==◌, if◌then◌else◌, Bool, true, List, map, filter, get_or, set, Option, Some, None}
use Rattle.std.specs.List.{range_with_len}
use Rattle.mcs_ticks.specs.declared.row.Row.{Row}
use Rattle.mcs_ticks.specs.declared.row.What.{What}
use Rattle.mcs_ticks.specs.declared.row.What.TheVariants as row
use Rattle.mcs_ticks.specs.declared.row.Why.{Why}
use Rattle.mcs_ticks.specs.declared.row.Why.TheVariants as why
use Rattle.mcs_system.specs.System.{System, core_of}
use Rattle.mcs_report.specs.declared.account.Account.{Account}
use Rattle.mcs_report.specs.declared.reports.ThreadReport.{ThreadReport}
use Rattle.mcs_report.specs.declared.reports.Reports.{Reports}
use Rattle.mcs_ticks.specs.Capped.{capped}
use Rattle.mcs_report.specs.Reports.{is_late, wait_until, core_report_of}

-- the counts of each thread, with its open run, and the time of the last row, at first 0
pub record Tally : Type 0 where
  pub horizon : ℕ
  pub cores : ℕ
  pub last : ℕ
  pub accounts : List Account

abbrev pub no_report : ThreadReport
no_report = record {
  ran = 0;
  rounds = 0;
  least = 0;
  greatest = 0;
  total = 0;
  late = 0;
  spent = 0;
  throttled = 0;
  longest = 0;
}

-- the account of a thread of this core before the first row
abbrev pub opened : ℕ → ℕ → Account
opened core deadline = record { core = core; deadline = deadline; since = None; report = no_report }

-- the default beyond the last account, which is never used
abbrev pub no_account : Account
no_account = opened 0 0

-- the thread begins to run
abbrev pub begun : ℕ → Account → Account
begun moment account = record account { since = Some moment }

abbrev pub ticks_since : ℕ → Option ℕ → ℕ
ticks_since moment None = 0
ticks_since moment (Some begin) = moment - begin

-- the open run, if there is one, ends
abbrev pub ended : ℕ → Account → Account
ended moment account =
    record account {
      since = None;
      report = record account.report { ran = capped (account.report.ran + ticks_since moment account.since) };
    }

-- the thread stops with an exhausted head and waits
abbrev pub waited : ℕ → Account → Account
waited wait account =
    record account {
      report =
          record account.report {
            spent = capped (account.report.spent + 1);
            throttled = capped (account.report.throttled + wait);
            longest = max account.report.longest wait;
          };
    }

abbrev pub stopped : ℕ → ℕ → Why → Option ℕ → Account → Account
stopped horizon moment why.Spent until account = waited (wait_until horizon moment until) (ended moment account)
stopped horizon moment cause until account = ended moment account

-- a job of the thread ends
abbrev pub responded : ℕ → Account → Account
responded response account =
    record account {
      report =
          record account.report {
            rounds = capped (account.report.rounds + 1);
            least = if account.report.rounds == 0 then response else min account.report.least response;
            greatest = max account.report.greatest response;
            total = capped (account.report.total + response);
            late = capped (account.report.late + (if is_late account.deadline response then 1 else 0));
          };
    }

-- one account changes
abbrev pub changed : ℕ → (Account → Account) → List Account → List Account
changed thread change accounts = set accounts thread (change (get_or accounts thread no_account))

abbrev pub told : ℕ → ℕ → What → List Account → List Account
told horizon moment (row.Run x) accounts = changed x (begun moment) accounts
told horizon moment (row.Stop x cause charged until) accounts = changed x (stopped horizon moment cause until) accounts
told horizon moment (row.Round x number response) accounts = changed x (responded response) accounts
told horizon moment _ accounts = accounts

-- the account at this index changes; without an index none does
abbrev pub changed_at : Option ℕ → (Account → Account) → List Account → List Account
changed_at None change accounts = accounts
changed_at (Some place) change accounts = changed place change accounts

-- as `told`, if the account of a thread is at a given index, or isn't there
abbrev pub told_at : (ℕ → Option ℕ) → ℕ → ℕ → What → List Account → List Account
told_at place horizon moment (row.Run x) accounts = changed_at (place x) (begun moment) accounts
told_at place horizon moment (row.Stop x cause charged until) accounts =
    changed_at (place x) (stopped horizon moment cause until) accounts
told_at place horizon moment (row.Round x number response) accounts = changed_at (place x) (responded response) accounts
told_at place horizon moment _ accounts = accounts

-- before the first row
abbrev pub opened_tally : System → ℕ → Tally
opened_tally system horizon =
    record {
      horizon = horizon;
      cores = system.cores;
      last = 0;
      accounts = map (λ thread. opened (core_of system thread) thread.deadline) system.threads;
    }

-- a further row
abbrev pub added : Tally → Row → Tally
added tally r =
    record tally {
      last = r.moment;
      accounts = told tally.horizon r.moment r.what tally.accounts;
    }

-- how a tally takes a row: it counts it, and refuses none
abbrev pub Counts : Tally → Row → Bool → Tally → Type 0
Counts before row taken after = (taken ≡ true) × (after ≡ added before row)

-- the report of a thread at the horizon, at which its open run ends
abbrev pub report_at : ℕ → Account → ThreadReport
report_at horizon account = (ended horizon account).report

-- the ticks that each thread of core c ran
abbrev pub ran_by : ℕ → List Account → ℕ → List ℕ
ran_by horizon accounts c =
    map (λ account. (report_at horizon account).ran) (filter (λ account. account.core == c) accounts)

-- the reports at the horizon
abbrev pub finished : Tally → Reports
finished tally =
    record {
      threads = map (report_at tally.horizon) tally.accounts;
      cores = map (λ c. core_report_of tally.horizon (ran_by tally.horizon tally.accounts c))
          (range_with_len 0 tally.cores);
    }
