-- The text of a check: what rows tell, and then the rest.
use Rattle.std.proofs.Common.{◌≡◌, ◌∙◌, ◌++◌, [], ℕ, ◌+◌, Bool, List, None, length, flat_map, ap, sym, append_assoc, append-nil, arith}
use Rattle.mcs_ticks.specs.Capped.{capped}
use Rattle.mcs_system.specs.System.{System}
use Rattle.mcs_core.specs.Clock.{schedule}
use Rattle.mcs_verdict.specs.Findings.{InOrder, all_at_end, found_in, past_of}
use Rattle.mcs_check_words.specs.declared.asked.Format.{Format}
use Rattle.mcs_check_words.specs.declared.asked.Show.{Show}
use Rattle.mcs_check_words.specs.declared.asked.Show.TheVariants as show
use Rattle.mcs_hints.specs.Hints.{hints_of}
use Rattle.mcs_chain.specs.declared.finding.Found.{Found as ChainFound}
use Rattle.mcs_chain.specs.Found.{all_judged, all_unanswered}
use Rattle.mcs_chain.specs.Watch.{all_due, all_judged_many, all_slow_many, watch_of as chains_of}
use Rattle.mcs_chain.proofs.Judged.{judged-in-all}
use Rattle.mcs_chain.proofs.Slow.{slow-in-all}
use Rattle.mcs_check.specs.declared.all_found.AllFound.{AllFound}
use Rattle.mcs_check_lines.specs.declared.checked.Checked.{Checked}
use Rattle.mcs_check_lines.specs.declared.counts.Counts.{Counts}
use Rattle.mcs_check_lines.specs.declared.unjudged.Unjudged.{Unjudged}
use Rattle.mcs_check_lines.specs.Checked.{chain_counts}
use Rattle.mcs_check_lines.specs.Deadlines.{chain_deadlines, thread_deadlines}
use Rattle.mcs_check_lines.specs.Unjudged.{unjudged_line}
use Rattle.mcs_check.specs.Judged.{all_unjudged, judged_rounds, waiting_many}
use Rattle.mcs_check_run.specs.Allowed.{flags_of}
use Rattle.mcs_check.specs.Check.{check_text, counts_of, figures_lines, findings_lines, shown_lines, thread_counts_of}
use Rattle.mcs_check_lines.specs.Counts.{no_counts, with_hints}
use Rattle.mcs_check_lines.specs.Formats.{counts_line, head_text, hint_line}
use Rattle.mcs_check_lines.specs.Told.{counts_with, found_lines, merged_in}
use Rattle.mcs_check.specs.stored.AllFound.{checked_of}
use Rattle.mcs_check.specs.stored.Rows.{counts_found, counts_in, ends_lines, rest_lines, row_lines, rows_text, tabled_lines}
use Rattle.mcs_check_run.specs.Lines.{lines_of}
use Rattle.mcs_check_lines.specs.Chains.{chain_found_lines}
use Rattle.mcs_check.proofs.InPlace.{in-place}
use Rattle.mcs_check.proofs.Told.{both-rows, jobs-are, no-rows}
use Rattle.mcs_check.proofs.Sums.{none-within, rows-within, sums-all, sums-found, sums-rows}

-- what is shown after the last row
abbrev pub rest_of : Format → Show → List (List ℕ) → System → ℕ → List ℕ
rest_of how asked names system horizon =
    rest_lines how asked system (flags_of names system.notes) (all_due None 0 (chains_of system (past_of [] (schedule system horizon))).each)
    (all_at_end system (past_of [] (schedule system horizon)) horizon)
    (all_unanswered system (past_of [] (schedule system horizon)) horizon 0 system.chains) (all_unjudged system (past_of [] (schedule system horizon)) horizon)
    ++ tabled_lines how asked system horizon (past_of [] (schedule system horizon))

-- and then the counts
abbrev pub rest_text : Format → Show → List (List ℕ) → System → ℕ → Checked → List ℕ
rest_text how asked names system horizon counts = rest_of how asked names system horizon ++ counts_line how counts

capped-sum : (a b c d : ℕ) → capped (capped a + capped b + c + d) ≡ capped (a + b + c + d)
capped-sum a b c d = omega arith

module _ (names : List (List ℕ)) (system : System) (horizon : ℕ) where
  abbrev flags : List Bool
  flags = flags_of names system.notes

  module _ (order : InOrder [] (schedule system horizon)) where
    findings-are : (how : Format) → lines_of (row_lines system flags how show.Findings) [] (schedule system horizon)
        ++ ends_lines how system flags (all_due None 0 (chains_of system (past_of [] (schedule system horizon))).each)
        (all_at_end system (past_of [] (schedule system horizon)) horizon) (all_unanswered system (past_of [] (schedule system horizon)) horizon 0 system.chains)
        (all_unjudged system (past_of [] (schedule system horizon)) horizon)
        ≡ findings_lines names system horizon how
    findings-are how =
        let past = past_of [] (schedule system horizon) in
        let lines = lines_of (row_lines system flags how show.Findings) [] (schedule system horizon) in
        let due = chain_found_lines how system (all_due None 0 (chains_of system past).each) in
        let ends = found_lines how system flags (all_at_end system past horizon) in
        let left = chain_found_lines how system (all_unanswered system past horizon 0 system.chains) in
        let open_ones = flat_map (unjudged_line how system) (all_unjudged system past horizon) in
        let hinted = flat_map (hint_line how system) (hints_of system) in
        sym (append_assoc lines (due ++ ends ++ left ++ open_ones) hinted)
        ∙ ap (λ l. l ++ hinted) (sym (append_assoc lines (due ++ ends ++ left) open_ones)
        ∙ ap (λ l. l ++ open_ones) (sym (append_assoc lines (due ++ ends) left) ∙ ap (λ l. l ++ left) (sym (append_assoc lines due ends)
        ∙ ap (λ l. l ++ ends) (in-place how system flags (schedule system horizon) order))))

    shown-is : (how : Format) (asked : Show) → lines_of (row_lines system flags how asked) [] (schedule system horizon) ++ rest_of how asked names system horizon ≡ shown_lines names system horizon how asked
    shown-is how show.Findings = ap (λ l. lines_of (row_lines system flags how show.Findings) [] (schedule system horizon) ++ l) (append-nil _) ∙ findings-are how
    shown-is how show.Jobs = append-nil _ ∙ jobs-are how system flags [] (schedule system horizon)
    shown-is how show.Table = ap (λ l. l ++ rest_of how show.Table names system horizon) (no-rows how system flags [] (schedule system horizon))
    shown-is how show.Both =
        let rows = lines_of (row_lines system flags how show.Findings) [] (schedule system horizon) in
        let past = past_of [] (schedule system horizon) in
        let ends = ends_lines how system flags (all_due None 0 (chains_of system past).each) (all_at_end system past horizon) (all_unanswered system past horizon 0 system.chains) (all_unjudged system past horizon) in
        let figures = figures_lines names system horizon how in
        ap (λ l. l ++ (ends ++ figures)) (both-rows how system flags [] (schedule system horizon))
        ∙ sym (append_assoc rows ends figures) ∙ ap (λ l. l ++ figures) (findings-are how)

  pub text-is : InOrder [] (schedule system horizon) → (how : Format) (asked : Show)
      → rows_text system flags how asked (schedule system horizon) ++ rest_text how asked names system horizon (counts_of names system horizon)
      ≡ check_text names system horizon how asked
  text-is order how asked =
      let lines = lines_of (row_lines system flags how asked) [] (schedule system horizon) in
      let rest = rest_of how asked names system horizon in
      let counted = counts_line how (counts_of names system horizon) in
      append_assoc (head_text how asked system) lines (rest ++ counted)
      ∙ ap (λ l. head_text how asked system ++ l) (sym (append_assoc lines rest counted) ∙ ap (λ l. l ++ counted) (shown-is order how asked))
      ∙ sym (append_assoc (head_text how asked system) (shown_lines names system horizon how asked) counted)

  pub counts-are : with_hints (length (hints_of system))
      (counts_found flags (all_at_end system (past_of [] (schedule system horizon)) horizon)
      (counts_in system flags [] (schedule system horizon) no_counts)) ≡ thread_counts_of names system horizon
  counts-are =
      let rows = schedule system horizon in
      let ends = all_at_end system (past_of [] rows) horizon in
      ap (with_hints (length (hints_of system)))
      (sums-found flags ends (counts_in system flags [] rows no_counts) (rows-within system flags [] rows no_counts none-within)
      ∙ ap (λ c. counts_with flags ends 0 0 c) (sums-rows system flags [] rows no_counts none-within))
      ∙ sym (sums-all flags (found_in system [] rows) ends (merged_in system [] rows) (length (hints_of system)) no_counts)

  -- the text after the lines of rows, with the flags, the system, what is found of chains, and the counts that the code has
  pub behind : (how : Format) (asked : Show) (text before : List ℕ) (allowed : List Bool) (own : System) (checked : Checked)
      (due unanswered : List ChainFound) (unjudged : List Unjudged)
      → allowed ≡ flags → own ≡ system → checked ≡ counts_of names system horizon
      → due ≡ all_due None 0 (chains_of system (past_of [] (schedule system horizon))).each
      → unanswered ≡ all_unanswered system (past_of [] (schedule system horizon)) horizon 0 system.chains
      → unjudged ≡ all_unjudged system (past_of [] (schedule system horizon)) horizon
      → text ≡ before ++ rest_lines how asked own allowed due (all_at_end own (past_of [] (schedule system horizon)) horizon) unanswered unjudged
      ++ tabled_lines how asked own horizon (past_of [] (schedule system horizon)) ++ counts_line how checked
      → text ≡ before ++ rest_text how asked names system horizon (counts_of names system horizon)
  behind how asked text before allowed own checked due unanswered unjudged flags_are system_is checked_is due_are unanswered_are unjudged_are put =
      let mine = rw (flags_are, system_is, checked_is, due_are, unanswered_are, unjudged_are) at put in
      let past = past_of [] (schedule system horizon) in
      let ends = rest_lines how asked system flags (all_due None 0 (chains_of system past).each) (all_at_end system past horizon)
      (all_unanswered system past horizon 0 system.chains) (all_unjudged system past horizon) in
      let figures = tabled_lines how asked system horizon past in
      mine ∙ ap (λ l. l ++ counts_line how (counts_of names system horizon)) (append_assoc before ends figures)
      ∙ append_assoc before (rest_of how asked names system horizon) (counts_line how (counts_of names system horizon))

  -- and how much is counted
  pub counts-put : (allowed : List Bool) (own : System) (kept counts : Counts) → allowed ≡ flags → own ≡ system
      → kept ≡ counts_in system flags [] (schedule system horizon) no_counts
      → counts ≡ with_hints (length (hints_of own)) (counts_found allowed (all_at_end own (past_of [] (schedule system horizon)) horizon) kept)
      → counts ≡ thread_counts_of names system horizon
  counts-put allowed own kept counts flags_are system_is kept_are put = rw (flags_are, system_is, kept_are) at put ∙ counts-are

  -- with those of chains, and how much was judged
  pub checked-put : (own : System) (found : AllFound) → own ≡ system → found.counts ≡ thread_counts_of names system horizon
      → found.slow ≡ all_slow_many (chains_of system (past_of [] (schedule system horizon))).each
      → found.unanswered.items ≡ all_unanswered system (past_of [] (schedule system horizon)) horizon 0 system.chains
      → found.unended.items ≡ all_at_end system (past_of [] (schedule system horizon)) horizon
      → found.rounds ≡ capped (judged_rounds system (past_of [] (schedule system horizon)))
      → found.answers ≡ all_judged_many (chains_of system (past_of [] (schedule system horizon))).each
      → found.unjudged.items ≡ all_unjudged system (past_of [] (schedule system horizon)) horizon
      → checked_of own found ≡ counts_of names system horizon
  checked-put own found system_is counts_are slow_is unanswered_are unended_are rounds_are answers_are unjudged_are =
      let past = past_of [] (schedule system horizon) in
      let many = slow_is ∙ slow-in-all system past in
      let answered = answers_are ∙ judged-in-all system past in
      ap (λ s. checked_of s found) system_is
      ∙ rw (counts_are, many, unanswered_are, unended_are, rounds_are, answered, unjudged_are)
      (ap (λ n. record {
        counts = thread_counts_of names system horizon;
        scope = record {
          unjudged = length (all_unjudged system past horizon);
          threads = length system.threads;
          deadlines = thread_deadlines system.threads + chain_deadlines system.chains;
          judged = n;
        };
        chains = chain_counts system past horizon;
      }) (capped-sum (judged_rounds system past) (all_judged system past system.chains)
      (waiting_many (all_at_end system past horizon)) (length (all_unanswered system past horizon 0 system.chains))))
