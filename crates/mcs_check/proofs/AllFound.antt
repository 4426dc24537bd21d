-- The findings of all rows of a run.
use Rattle.std.proofs.Common.{◌≡◌, ◌∙◌, [], Bool, false, ℕ, List, Option, IfErr, IfOk, sym, subst}
use Rattle.std.specs.Prelude.{Result, Ok, Err, IfSome, None}
use Rattle.mcs_ticks.specs.Capped.{capped}
use Rattle.mcs_ticks.specs.declared.row.Row.{Row}
use Rattle.mcs_system.specs.System.{System}
use Rattle.mcs_verdict.specs.Findings.{UpTo, all_at_end, past_of}
use Rattle.mcs_chain.specs.Found.{all_unanswered}
use Rattle.mcs_chain.specs.Watch.{all_due, all_judged_many, all_slow_many, watch_of as chains_of}
use Rattle.mcs_verdict.specs.Words.{firsts_of}
use Rattle.mcs_verdict.proofs.Watches.{length-accounts as length-watched}
use Rattle.mcs_cli.specs.Flow.{AppendsBefore, IsWriteFault}
use Rattle.mcs_cli.specs.declared.fault.RunFault.{RunFault}
use Rattle.mcs_cli.specs.declared.fault.RunFault.TheVariants as fault
use Rattle.mcs_cli.proofs.Flow.{prefix-before}
use Rattle.mcs_team.specs.declared.run.SimFault.TheVariants.{NoMemory}
use Rattle.mcs_check_words.specs.declared.asked.Format.{Format}
use Rattle.mcs_check_words.specs.declared.asked.Options.{Options}
use Rattle.mcs_check_words.specs.declared.asked.Show.{Show}
use Rattle.mcs_check_words.specs.declared.asked.Show.TheVariants as show
use Rattle.mcs_check.specs.declared.all_found.AllFound.{AllFound}
use Rattle.mcs_check.specs.declared.seen.Seen.{Seen}
use Rattle.mcs_check_lines.specs.Counts.{no_counts}
use Rattle.mcs_check.specs.Judged.{all_unjudged, judged_rounds}
use Rattle.mcs_check.specs.stored.AllFound.{kept_of, rows_of_run, text_of_rows, IsAllFound, IsKeptOf}
use Rattle.mcs_check.specs.stored.Rows.{counts_in, kept_table}
use Rattle.mcs_check.specs.stored.Watches.{watches_of}
use Rattle.mcs_check.proofs.Told.{kept-long}

module _ (system : System) (allowed : List Bool) (options : Options) (old new : Option (List ℕ)) where
  abbrev past : List Row
  past = past_of [] (rows_of_run system allowed options)

  module _ (seen : Seen) (text : AppendsBefore old new (text_of_rows system allowed options) seen.text.items) where
    -- all that was seen gives all that was found
    pub found-all : (r : Result AllFound RunFault) → IfOk r (λ found. found.text ≡ seen.text) → IfOk r (λ found. found.counts ≡ seen.counts)
        → ((past : List Row) → seen.watch ≡ watches_of system past → IfOk r (λ found. found.due.items ≡ all_due None 0 (chains_of system past).each))
        → ((past : List Row) → seen.watch ≡ watches_of system past → IfOk r (λ found. found.slow ≡ all_slow_many (chains_of system past).each))
        → ((past : List Row) → seen.watch ≡ watches_of system past → IfOk r (λ found. found.unanswered.items ≡ all_unanswered system past options.horizon 0 system.chains))
        → ((past : List Row) → seen.watch ≡ watches_of system past → UpTo options.horizon past → IfOk r (λ found. found.unended.items ≡ all_at_end system past options.horizon))
        → ((past : List Row) → seen.watch ≡ watches_of system past → IfOk r (λ found. found.rounds ≡ capped (judged_rounds system past)))
        → ((past : List Row) → seen.watch ≡ watches_of system past → IfOk r (λ found. found.answers ≡ all_judged_many (chains_of system past).each))
        → ((past : List Row) → seen.watch ≡ watches_of system past → UpTo options.horizon past → IfOk r (λ found. found.unjudged.items ≡ all_unjudged system past options.horizon))
        → ((asked : Show) (past : List Row) → seen.watch ≡ watches_of system past → seen.table ≡ kept_table asked system options.horizon past → IfOk r (λ found. found.kept ≡ kept_of asked system options.horizon past))
        → seen.counts ≡ counts_in system allowed [] (rows_of_run system allowed options) no_counts → seen.watch ≡ watches_of system past
        → seen.table ≡ kept_table options.show system options.horizon past → UpTo options.horizon past → IfOk r (IsAllFound system allowed options old new)
    found-all (Ok found) text_is counts_are due slow unanswered unended rounds answers unjudged kept counted watch table in_time =
        record {
          text = subst (λ v. AppendsBefore old new (text_of_rows system allowed options) v.items) (sym text_is) text;
          counts = counts_are ∙ counted;
          unended = unended past watch in_time;
          due = due past watch;
          slow = slow past watch;
          unanswered = unanswered past watch;
          rounds = rounds past watch;
          answers = answers past watch;
          unjudged = unjudged past watch in_time;
          kept = kept options.show past watch table;
          in_time = in_time;
        }
    found-all (Err why) text_is counts_are due slow unanswered unended rounds answers unjudged kept counted watch table in_time = tt

    -- or there was no memory
    pub none-found : (r : Result AllFound RunFault) (failed : Bool) → IfErr r (λ why. why ≡ fault.Sim NoMemory) → failed ≡ false
        → IfErr r (IsWriteFault old new failed (text_of_rows system allowed options))
    none-found (Ok found) failed why working = tt
    none-found (Err f) failed why working = subst (IsWriteFault old new failed (text_of_rows system allowed options)) (sym why) (working, prefix-before _ _ _ _ text)

-- of each thread there is an account in what is kept
pub kept-accounts : (how : Format) (system : System) (horizon : ℕ) (past : List Row) (asked : Show) → IfSome (kept_of asked system horizon past) (IsKeptOf system)
kept-accounts how system horizon rows show.Findings = tt
kept-accounts how system horizon rows show.Jobs = tt
kept-accounts how system horizon rows show.Table = record { watched = length-watched (firsts_of system) 0 system.threads rows; tabled = kept-long how system horizon rows show.Table }
kept-accounts how system horizon rows show.Both = record { watched = length-watched (firsts_of system) 0 system.threads rows; tabled = kept-long how system horizon rows show.Both }
