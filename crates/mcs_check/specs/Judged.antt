-- How much a check judges, by the rows up to the horizon, the latest first.
use Rattle.std.specs.Prelude.{ℕ, ◌+◌, Bool, false, ◌==◌, ◌&&◌, ◌||◌, not, if◌then◌else◌, List, length, count_by, Option, Some, None, is_some}
use Rattle.std.specs.List.{filter_map, range_with_len}
use Rattle.mcs_ticks.specs.Capped.{capped}
use Rattle.mcs_ticks.specs.declared.row.Row.{Row}
use Rattle.mcs_ticks.specs.declared.row.What.{What}
use Rattle.mcs_ticks.specs.declared.row.What.TheVariants as row
use Rattle.mcs_system.specs.System.{System, core_of, thread_part}
use Rattle.mcs_chain.specs.Found.{all_judged, all_unanswered}
use Rattle.mcs_verdict.specs.declared.finding.Found.{Found}
use Rattle.mcs_verdict.specs.Findings.{all_at_end}
use Rattle.mcs_verdict.specs.Jobs.{or_now}
use Rattle.mcs_verdict.specs.Misses.{unended}
use Rattle.mcs_verdict.specs.Rounds.{activated_of, first_wait}
use Rattle.mcs_check_lines.specs.declared.checked.Scope.{Scope}
use Rattle.mcs_check_lines.specs.declared.unjudged.Unjudged.{Unjudged}
use Rattle.mcs_check_lines.specs.Deadlines.{chain_deadlines, has_deadline, thread_deadlines}
use Rattle.mcs_check_lines.specs.Told.{is_overdue, is_untaken}

-- a round of the thread ends
abbrev pub ends : ℕ → What → Bool
ends thread (row.Round x number response) = x == thread
ends thread _ = false

-- how many rounds of the thread ended
abbrev pub ended : ℕ → List Row → ℕ
ended thread past = count_by (λ r. ends thread r.what) past

-- a round of a thread with a deadline ends
abbrev pub is_judged : System → What → Bool
is_judged system (row.Round x number response) = has_deadline (thread_part system x)
is_judged system _ = false

-- how many such rounds ended
abbrev pub judged_rounds : System → List Row → ℕ
judged_rounds system past = count_by (λ r. is_judged system r.what) past

-- how many of these findings are overdue rounds or untaken words
abbrev pub waiting_many : List Found → ℕ
waiting_many found = count_by (λ f. is_overdue f.finding || is_untaken f.finding) found

-- a round that no word begins is under way from the start on; it was activated at the horizon at the
-- latest, unless the thread was never activated
abbrev pub by_then : ℕ → Option ℕ → Option ℕ → Option ℕ
by_then horizon None activated = Some (or_now horizon activated)
by_then horizon (Some note) activated = activated

-- when the first round of a thread was activated, if none ended and it is under way
abbrev pub first_activated : System → List Row → ℕ → ℕ → Option ℕ
first_activated system past horizon thread = by_then horizon (first_wait (thread_part system thread)) (activated_of system thread past horizon)

-- the thread has a deadline, no round of it ended, and nothing is found of it at the horizon
abbrev pub is_unjudged : System → List Row → ℕ → ℕ → Bool
is_unjudged system past horizon thread =
    has_deadline (thread_part system thread) && (ended thread past == 0 && not (is_some (unended system past horizon thread)))

abbrev pub unjudged : System → List Row → ℕ → ℕ → Option Unjudged
unjudged system past horizon thread =
    if is_unjudged system past horizon thread
    then Some (record {
      moment = horizon;
      core = core_of system (thread_part system thread);
      thread = thread;
      deadline = (thread_part system thread).deadline;
      activated = first_activated system past horizon thread;
    })
    else None

-- the unjudged threads, in order
abbrev pub all_unjudged : System → List Row → ℕ → List Unjudged
all_unjudged system past horizon = filter_map (unjudged system past horizon) (range_with_len 0 (length system.threads))

-- Rounds of threads with a deadline are judged, ended or overdue, and untaken words; and so are
-- chains with a deadline by their answers.
abbrev pub judged_many : System → List Row → ℕ → ℕ
judged_many system past horizon =
    judged_rounds system past + all_judged system past system.chains
    + waiting_many (all_at_end system past horizon) + length (all_unanswered system past horizon 0 system.chains)

abbrev pub scope_of : System → List Row → ℕ → Scope
scope_of system past horizon =
    record {
      unjudged = length (all_unjudged system past horizon);
      threads = length system.threads;
      deadlines = thread_deadlines system.threads + chain_deadlines system.chains;
      judged = capped (judged_many system past horizon);
    }
