-- The findings of all rows of a run, and the bytes written then.
use Rattle.std.specs.Prelude.{◌≡◌, ℕ, ◌+◌, Bool, List, [], Option, None, length, option_map}
use Rattle.mcs_ticks.specs.Capped.{capped}
use Rattle.mcs_ticks.specs.declared.row.Row.{Row}
use Rattle.mcs_system.specs.System.{System}
use Rattle.mcs_core.specs.Clock.{schedule}
use Rattle.mcs_verdict.specs.Findings.{UpTo, all_at_end, past_of}
use Rattle.mcs_verdict.specs.Watch.{Watch, watch_of}
use Rattle.mcs_chain.specs.Found.{all_unanswered}
use Rattle.mcs_chain.specs.Watch.{all_due, all_judged_many, all_slow_many, watch_of as chains_of}
use Rattle.mcs_cli.specs.Flow.{AppendsBefore}
use Rattle.mcs_check_words.specs.declared.asked.Options.{Options}
use Rattle.mcs_check_words.specs.declared.asked.Show.{Show}
use Rattle.mcs_check.specs.declared.all_found.AllFound.{AllFound}
use Rattle.mcs_check.specs.declared.all_found.Kept.{Kept}
use Rattle.mcs_check.specs.declared.seen.Seen.{Seen}
use Rattle.mcs_check.specs.declared.seen.Tables.{Tables}
use Rattle.mcs_check_lines.specs.declared.checked.Checked.{Checked}
use Rattle.mcs_check_lines.specs.declared.checked.Scope.{Scope}
use Rattle.mcs_check_lines.specs.Deadlines.{chain_deadlines, thread_deadlines}
use Rattle.mcs_check.specs.Judged.{all_unjudged, judged_rounds, waiting_many}
use Rattle.mcs_check_lines.specs.Checked.{if_chains}
use Rattle.mcs_check_lines.specs.Counts.{no_counts}
use Rattle.mcs_check.specs.stored.Rows.{counts_in, kept_table, rows_text}
use Rattle.mcs_check.specs.stored.Watches.{watches_of}

-- the state kept for figures, if there is a table
abbrev pub kept_with : Watch → Option Tables → Option Kept
kept_with watch table = option_map (λ t. record { watch = watch; table = t }) table

abbrev pub kept_of : Show → System → ℕ → List Row → Option Kept
kept_of asked system horizon past = kept_with (watch_of system past) (kept_table asked system horizon past)

-- each thread has an account in both
pub record IsKeptOf (system : System) (kept : Kept) : Type 0 where
  pub watched : length kept.watch.accounts ≡ length system.threads
  pub tabled : length kept.table.threads.accounts ≡ length system.threads

-- how much was judged, and the counts of all that was found
abbrev pub scope_with : System → AllFound → Scope
scope_with system found =
    record {
      unjudged = length found.unjudged.items;
      threads = length system.threads;
      deadlines = thread_deadlines system.threads + chain_deadlines system.chains;
      judged = capped (found.rounds + found.answers + waiting_many found.unended.items + length found.unanswered.items);
    }

abbrev pub checked_of : System → AllFound → Checked
checked_of system found =
    record {
      counts = found.counts;
      scope = scope_with system found;
      chains = if_chains system.chains (record { slow = found.slow; unanswered = length found.unanswered.items });
    }

module _ (system : System) (allowed : List Bool) (options : Options) where
  abbrev pub rows_of_run : List Row
  rows_of_run = schedule system options.horizon

  -- the lines of the rows
  abbrev pub text_of_rows : List ℕ
  text_of_rows = rows_text system allowed options.format options.show rows_of_run

  -- all rows of the run were seen, and their lines were written except the text that waits
  pub record IsAllSeen (old new : Option (List ℕ)) (seen : Seen) : Type 0 where
    pub text : AppendsBefore old new text_of_rows seen.text.items
    pub watch : seen.watch ≡ watches_of system (past_of [] rows_of_run)
    pub counts : seen.counts ≡ counts_in system allowed [] rows_of_run no_counts
    pub table : seen.table ≡ kept_table options.show system options.horizon (past_of [] rows_of_run)

  -- the findings of all rows of the run; their lines were written except the text that waits
  pub record IsAllFound (old new : Option (List ℕ)) (found : AllFound) : Type 0 where
    pub text : AppendsBefore old new text_of_rows found.text.items
    pub counts : found.counts ≡ counts_in system allowed [] rows_of_run no_counts
    pub unended : found.unended.items ≡ all_at_end system (past_of [] rows_of_run) options.horizon
    pub due : found.due.items ≡ all_due None 0 (chains_of system (past_of [] rows_of_run)).each
    pub slow : found.slow ≡ all_slow_many (chains_of system (past_of [] rows_of_run)).each
    pub unanswered : found.unanswered.items ≡ all_unanswered system (past_of [] rows_of_run) options.horizon 0 system.chains
    pub rounds : found.rounds ≡ capped (judged_rounds system (past_of [] rows_of_run))
    pub answers : found.answers ≡ all_judged_many (chains_of system (past_of [] rows_of_run)).each
    pub unjudged : found.unjudged.items ≡ all_unjudged system (past_of [] rows_of_run) options.horizon
    pub kept : found.kept ≡ kept_of options.show system options.horizon (past_of [] rows_of_run)
    pub in_time : UpTo options.horizon (past_of [] rows_of_run)
