-- The figures kept of a schedule's rows: for each thread of its rounds, for each notification of
-- lost and merged signals.
use Rattle.std.specs.Prelude.{ℕ, suc, List, [], ◌∷◌, length, map}
use Rattle.std.specs.List.{range_with_len}
use Rattle.mcs_ticks.specs.declared.row.Row.{Row}
use Rattle.mcs_system.specs.declared.part.ThreadPart.{ThreadPart}
use Rattle.mcs_system.specs.System.{System}
use Rattle.mcs_histogram.specs.Histogram.{histogram_of}
use Rattle.mcs_table.specs.declared.account.Account.{Account}
use Rattle.mcs_ticks.specs.Capped.{capped}
use Rattle.mcs_table.specs.Rounds.{responses_of, greatest, missed_in, late_in}
use Rattle.mcs_table.specs.Signals.{lost_by, merged_by, times_at}

-- the account of rounds with these responses, `late` of them late
abbrev pub account_with : ℕ → ℕ → List ℕ → ℕ → Account
account_with horizon deadline responses late =
    record {
      deadline = deadline;
      greatest = greatest responses;
      missed = capped (missed_in deadline responses);
      late = capped late;
      responses = histogram_of horizon responses;
    }

-- the account of a thread with this deadline
abbrev pub account_of : System → ℕ → ℕ → ℕ → List Row → Account
account_of system horizon deadline thread past =
    account_with horizon deadline (responses_of system thread past) (late_in deadline thread past)

-- the accounts of the threads from number n on
abbrev pub accounts_of : System → ℕ → ℕ → List ThreadPart → List Row → List Account
accounts_of system horizon n [] past = []
accounts_of system horizon n (part ∷ parts) past =
    account_of system horizon part.deadline n past ∷ accounts_of system horizon (suc n) parts past

-- the counts of the notifications, by number
abbrev pub counts_of : (ℕ → ℕ) → ℕ → List ℕ
counts_of count notes = map (λ note. capped (count note)) (range_with_len 0 notes)

pub record Table : Type 0 where
  pub horizon : ℕ
  pub accounts : List Account
  pub lost : List ℕ
  pub merged : List ℕ

-- the table after these rows, in a run up to the horizon
abbrev pub table_of : System → ℕ → List Row → Table
table_of system horizon past =
    record {
      horizon = horizon;
      accounts = accounts_of system horizon 0 system.threads past;
      lost = counts_of (λ note. times_at (lost_by system) note past) (length system.notes);
      merged = counts_of (λ note. times_at (merged_by system) note past) (length system.notes);
    }
