-- The reports: sums and counts over the rows of a schedule.
use Rattle.std.specs.Prelude.{ℕ, suc, ◌-◌, min, max, Bool, false, ◌==◌, ◌&&◌, not, nat_lt, if◌then◌else◌, List, [], ◌∷◌, length, map, sum, count_by, fold, Option, Some, None}
use Rattle.std.specs.List.{range_with_len, flat_map}
use Rattle.mcs_ticks.specs.Capped.{capped}
use Rattle.mcs_ticks.specs.declared.row.Row.{Row}
use Rattle.mcs_ticks.specs.declared.row.What.{What}
use Rattle.mcs_ticks.specs.declared.row.What.TheVariants as row
use Rattle.mcs_ticks.specs.declared.row.Why.TheVariants as why
use Rattle.mcs_system.specs.declared.part.ThreadPart.{ThreadPart}
use Rattle.mcs_system.specs.System.{System, core_of}
use Rattle.mcs_report.specs.declared.reports.ThreadReport.{ThreadReport}
use Rattle.mcs_report.specs.declared.reports.CoreReport.{CoreReport}
use Rattle.mcs_report.specs.declared.reports.Reports.{Reports}

-- whether this row starts a run of the thread
abbrev pub runs : ℕ → What → Bool
runs thread (row.Run x) = x == thread
runs thread _ = false

-- whether this row stops the thread
abbrev pub stops : ℕ → What → Bool
stops thread (row.Stop x cause charged until) = x == thread
stops thread _ = false

-- the time of the thread's next stop, or the horizon
abbrev pub next_stop : ℕ → ℕ → List Row → ℕ
next_stop horizon thread [] = horizon
next_stop horizon thread (r ∷ rows) = if stops thread r.what then r.moment else next_stop horizon thread rows

-- the length of each run
abbrev pub run_lengths : ℕ → ℕ → List Row → List ℕ
run_lengths horizon thread [] = []
run_lengths horizon thread (r ∷ rows) =
    if runs thread r.what then (next_stop horizon thread rows - r.moment) ∷ run_lengths horizon thread rows
    else run_lengths horizon thread rows

abbrev pub response_in : ℕ → What → List ℕ
response_in thread (row.Round x number response) = if x == thread then response ∷ [] else []
response_in thread _ = []

-- the response times of the thread's jobs
abbrev pub responses : ℕ → List Row → List ℕ
responses thread rows = flat_map (λ r. response_in thread r.what) rows

-- whether a response time exceeds the deadline. Deadline 0 means none.
abbrev pub is_late : ℕ → ℕ → Bool
is_late deadline response = not (deadline == 0) && nat_lt deadline response

-- whether this row stops the thread because its head is exhausted
abbrev pub is_spent : ℕ → What → Bool
is_spent thread (row.Stop x why.Spent charged until) = x == thread
is_spent thread _ = false

-- ticks from this time until the date for which a thread waits, or the horizon. 0 if it doesn't
-- wait.
abbrev pub wait_until : ℕ → ℕ → Option ℕ → ℕ
wait_until horizon moment None = 0
wait_until horizon moment (Some until) = min until horizon - moment

abbrev pub wait_in : ℕ → ℕ → ℕ → What → List ℕ
wait_in horizon thread moment (row.Stop x why.Spent charged (Some until)) =
    if x == thread then wait_until horizon moment (Some until) ∷ [] else []
wait_in horizon thread moment _ = []

-- how long the thread waited after each stop with an exhausted head, up to the horizon
abbrev pub waits : ℕ → ℕ → List Row → List ℕ
waits horizon thread rows = flat_map (λ r. wait_in horizon thread r.moment r.what) rows

-- 0 if there is none
abbrev pub greatest : List ℕ → ℕ
greatest xs = fold max 0 xs

-- 0 if there is none
abbrev pub least : List ℕ → ℕ
least [] = 0
least (x ∷ xs) = fold min x xs

abbrev pub thread_report : ℕ → List Row → ℕ → ℕ → ThreadReport
thread_report horizon rows thread deadline =
    record {
      ran = capped (sum (run_lengths horizon thread rows));
      rounds = capped (length (responses thread rows));
      least = least (responses thread rows);
      greatest = greatest (responses thread rows);
      total = capped (sum (responses thread rows));
      late = capped (count_by (is_late deadline) (responses thread rows));
      spent = capped (count_by (λ r. is_spent thread r.what) rows);
      throttled = capped (sum (waits horizon thread rows));
      longest = greatest (waits horizon thread rows);
    }

abbrev pub thread_reports : ℕ → List Row → ℕ → List ThreadPart → List ThreadReport
thread_reports horizon rows number [] = []
thread_reports horizon rows number (thread ∷ threads) =
    thread_report horizon rows number thread.deadline ∷ thread_reports horizon rows (suc number) threads

-- the ticks that each thread of core c ran
abbrev pub ran_on : System → ℕ → List ThreadPart → List ThreadReport → List ℕ
ran_on system c (thread ∷ threads) (report ∷ reports) =
    if core_of system thread == c then report.ran ∷ ran_on system c threads reports else ran_on system c threads reports
ran_on system c _ _ = []

-- a core is idle while no thread of it runs
abbrev pub core_report_of : ℕ → List ℕ → CoreReport
core_report_of horizon ran = record { busy = capped (sum ran); idle = horizon - capped (sum ran) }

abbrev pub reports_of : System → ℕ → List Row → Reports
reports_of system horizon rows =
    let threads = thread_reports horizon rows 0 system.threads in
    record {
      threads = threads;
      cores = map (λ c. core_report_of horizon (ran_on system c system.threads threads))
          (range_with_len 0 system.cores);
    }
