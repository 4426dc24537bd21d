use Rattle.std.proofs.Common.{rules, ◌≡◌, ◌∙◌, ◌++◌, [], false, Err, ap, refl, subst, sym}
use Rattle.std.specs.Arc.{arc_value}
use Rattle.mcs_ticks.specs.declared.sink.FlowFault.TheVariants as fault
use Rattle.mcs_ticks.specs.Capped.{capped}
use Rattle.mcs_core.specs.Clock.{schedule}
use Rattle.mcs_system.specs.System.{System}
use Rattle.mcs_verdict.specs.Findings.{UpTo, all_at_end, past_of}
use Rattle.mcs_cli.specs.Devices.{AppendsPrefix}
use Rattle.mcs_cli.specs.Flow.{AppendsBefore, IsWriteFault}
use Rattle.mcs_cli.proofs.Flow.{before-none, prefix-before}
use Rattle.mcs_cli.proofs.Rows.{at-last, at-target, err-is}
use Rattle.mcs_check_words.specs.declared.asked.Show.TheVariants as show
use Rattle.mcs_check_lines.specs.Formats.{head_text}
use Rattle.mcs_check.specs.Judged.{all_unjudged, judged_rounds}
use Rattle.mcs_check.specs.stored.AllFound.{kept_of}
use Rattle.mcs_check.specs.stored.Found.{counts_so_far}
use Rattle.mcs_check_run.specs.Lines.{failed_after}
use Rattle.mcs_check.specs.stored.Rows.{lines_in, rows_text}
use Rattle.mcs_check.proofs.Finders.{counts-so-far}
use Rattle.mcs_check_run.proofs.Results.{moved, refused-fault}
use Rattle.mcs_check.proofs.Told.{alone-rows, no-answers, no-due, no-slow, no-unanswered}
use Rattle.mcs_check.proofs.find.find_by_core.Goals as goal

pub returns-in-Ok-clause-ok : goal.returns-in-Ok-clause-ok
returns-in-Ok-clause-ok g c =
    let held = g.T.Target.contents in
    let failed = g.T.Target.has_failed in
    let last = c.look.new.lines in
    let horizon = c.args.options.now.horizon in
    let how = c.args.options.now.format in
    let system = arc_value c.args.system.now in
    let begun : c.new-lines.result.target.now ≡ c.args.target.now = search rules in
    let system_is : c.deref-3.result.now ≡ arc_value c.args.system.now = search rules in
    let asked_is : c.args.options.now.show ≡ show.Findings = c.requires.1 in
    let none : system.chains ≡ [] = c.requires.2 in
    let headed : c.in_ok-text.text.items ≡ head_text how show.Findings system = subst (λ a. c.in_ok-text.text.items ≡ head_text how a system) asked_is (search rules) in
    let alone = sym (alone-rows how system c.args.allowed.now show.Findings [] (schedule system horizon) none) in
    let target_is : last.lines.target.ghost_name ≡ c.new-lines.result.target.ghost_name = c.in-Ok.ensures.put.0 in
    let text_is : last.text.ghost_name ≡ _ = c.in-Ok.ensures.put.1 in
    let told : AppendsBefore (held c.args.target.now) (held last.lines.target.now) (rows_text system c.args.allowed.now how c.args.options.now.show (schedule system horizon)) last.text.now.items =
    subst (λ a. AppendsBefore (held c.args.target.now) (held last.lines.target.now) (rows_text system c.args.allowed.now how a (schedule system horizon)) last.text.now.items) (sym asked_is)
    (subst (λ l. AppendsBefore (held c.args.target.now) (held last.lines.target.now) (head_text how show.Findings system ++ l) last.text.now.items) alone
    (moved (λ w sys first _. AppendsBefore (held w) (held last.lines.target.now) (first ++ lines_in sys c.args.allowed.now how show.Findings [] (schedule sys horizon)) last.text.now.items)
    _ _ _ _ _ _ _ _ begun system_is headed begun c.in-Ok.ensures.put.6)) in
    let counted = ap (λ s. counts_so_far s c.args.allowed.now (past_of [] (schedule s horizon))) system_is ∙ counts-so-far system c.args.allowed.now [] (schedule system horizon) in
    let in_time : UpTo horizon (past_of [] (schedule system horizon)) = search rules in
    record {
      text = at-last (λ w text. AppendsBefore (held c.args.target.now) (held w) (rows_text system c.args.allowed.now how c.args.options.now.show (schedule system horizon)) text)
          last.lines.target.now _ last.text.now.items _ (search rules) (ap (λ t. t.items) c.found_with.ensures.text ∙ search rules) told;
      counts = c.found_with.ensures.counts ∙ c.in-Ok.ensures.counts ∙ counted;
      unended = ap (λ v. v.items) c.found_with.ensures.unended ∙ c.in-Ok.ensures.unended
          ∙ ap (λ (s : System). all_at_end s (past_of [] (schedule s horizon)) horizon) system_is;
      rounds = c.found_with.ensures.judged.0 ∙ c.in-Ok.ensures.rounds
          ∙ ap (λ s. capped (judged_rounds s (past_of [] (schedule s horizon)))) system_is;
      answers = c.found_with.ensures.judged.1 ∙ sym (no-answers system (past_of [] (schedule system horizon)) none);
      unjudged = ap (λ v. v.items) c.found_with.ensures.judged.2 ∙ c.in-Ok.ensures.unjudged
          ∙ ap (λ s. all_unjudged s (past_of [] (schedule s horizon)) horizon) system_is;
      due = c.found_with.ensures.none.0 ∙ sym (no-due system (past_of [] (schedule system horizon)) none);
      slow = c.found_with.ensures.none.1 ∙ sym (no-slow system (past_of [] (schedule system horizon)) none);
      unanswered = c.found_with.ensures.none.2 ∙ sym (no-unanswered system (past_of [] (schedule system horizon)) horizon none);
      kept = c.found_with.ensures.none.3 ∙ sym (ap (λ a. kept_of a system horizon (past_of [] (schedule system horizon))) asked_is);
      in_time = in_time;
    }

pub returns-in-Ok-clause-working : goal.returns-in-Ok-clause-working
returns-in-Ok-clause-working g c =
    let held = g.T.Target.contents in
    let failed = g.T.Target.has_failed in
    let last = c.look.new.lines in
    let horizon = c.args.options.now.horizon in
    let how = c.args.options.now.format in
    let system = arc_value c.args.system.now in
    let begun : c.new-lines.result.target.now ≡ c.args.target.now = search rules in
    let system_is : c.deref-3.result.now ≡ arc_value c.args.system.now = search rules in
    let asked_is : c.args.options.now.show ≡ show.Findings = c.requires.1 in
    let none : system.chains ≡ [] = c.requires.2 in
    let headed : c.in_ok-text.text.items ≡ head_text how show.Findings system = subst (λ a. c.in_ok-text.text.items ≡ head_text how a system) asked_is (search rules) in
    let alone = sym (alone-rows how system c.args.allowed.now show.Findings [] (schedule system horizon) none) in
    let target_is : last.lines.target.ghost_name ≡ c.new-lines.result.target.ghost_name = c.in-Ok.ensures.put.0 in
    let text_is : last.text.ghost_name ≡ _ = c.in-Ok.ensures.put.1 in
    at-target (λ w. failed w ≡ false) last.lines.target.now _ (search rules) (c.in-Ok.ensures.put.4 refl ∙ ap failed begun ∙ c.requires.0)

pub returns-in-Err-NoMemory-clause-fault : goal.returns-in-Err-NoMemory-clause-fault
returns-in-Err-NoMemory-clause-fault g c =
    let held = g.T.Target.contents in
    let failed = g.T.Target.has_failed in
    let last = c.look.new.lines in
    let horizon = c.args.options.now.horizon in
    let how = c.args.options.now.format in
    let system = arc_value c.args.system.now in
    let begun : c.new-lines.result.target.now ≡ c.args.target.now = search rules in
    let system_is : c.deref-3.result.now ≡ arc_value c.args.system.now = search rules in
    let asked_is : c.args.options.now.show ≡ show.Findings = c.requires.1 in
    let none : system.chains ≡ [] = c.requires.2 in
    let headed : c.in_ok-text.text.items ≡ head_text how show.Findings system = subst (λ a. c.in_ok-text.text.items ≡ head_text how a system) asked_is (search rules) in
    let alone = sym (alone-rows how system c.args.allowed.now show.Findings [] (schedule system horizon) none) in
    let is : c.look.result ≡ Err fault.NoMemory = search rules in
    let some = err-is _ c.look.result fault.NoMemory is c.look.ensures.fault in
    let target_is : last.lines.target.ghost_name ≡ c.new-lines.result.target.ghost_name = some.0 in
    let told : AppendsPrefix (held c.args.target.now) (held last.lines.target.now) (rows_text system c.args.allowed.now how c.args.options.now.show (schedule system horizon)) =
    subst (λ a. AppendsPrefix (held c.args.target.now) (held last.lines.target.now) (rows_text system c.args.allowed.now how a (schedule system horizon))) (sym asked_is)
    (subst (λ l. AppendsPrefix (held c.args.target.now) (held last.lines.target.now) (head_text how show.Findings system ++ l)) alone
    (moved (λ w sys first _. AppendsPrefix (held w) (held last.lines.target.now) (first ++ lines_in sys c.args.allowed.now how show.Findings [] (schedule sys horizon)))
    _ _ _ _ _ _ _ _ begun system_is headed begun some.2)) in
    at-target (λ w. (failed w ≡ false) × AppendsPrefix (held c.args.target.now) (held w) (rows_text system c.args.allowed.now how c.args.options.now.show (schedule system horizon)))
    last.lines.target.now _ (search rules) (some.1 ∙ ap failed begun ∙ c.requires.0, told)

pub returns-clause-fault : goal.returns-clause-fault
returns-clause-fault g c =
    let held = g.T.Target.contents in
    let failed = g.T.Target.has_failed in
    let last = c.look.new.lines in
    let horizon = c.args.options.now.horizon in
    let how = c.args.options.now.format in
    let system = arc_value c.args.system.now in
    let begun : c.new-lines.result.target.now ≡ c.args.target.now = search rules in
    let system_is : c.deref-3.result.now ≡ arc_value c.args.system.now = search rules in
    let asked_is : c.args.options.now.show ≡ show.Findings = c.requires.1 in
    let none : system.chains ≡ [] = c.requires.2 in
    let headed : c.in_ok-text.text.items ≡ head_text how show.Findings system = subst (λ a. c.in_ok-text.text.items ≡ head_text how a system) asked_is (search rules) in
    let alone = sym (alone-rows how system c.args.allowed.now show.Findings [] (schedule system horizon) none) in
    let is : c.look.result ≡ Err fault.Sink = search rules in
    let some = err-is _ c.look.result fault.Sink is c.look.ensures.fault in
    let target_is : last.lines.target.ghost_name ≡ c.new-lines.result.target.ghost_name = some.0 in
    let told : AppendsPrefix (held c.args.target.now) (held last.lines.target.now) (rows_text system c.args.allowed.now how c.args.options.now.show (schedule system horizon)) =
    subst (λ a. AppendsPrefix (held c.args.target.now) (held last.lines.target.now) (rows_text system c.args.allowed.now how a (schedule system horizon))) (sym asked_is)
    (subst (λ l. AppendsPrefix (held c.args.target.now) (held last.lines.target.now) (head_text how show.Findings system ++ l)) alone
    (moved (λ w sys first _. AppendsPrefix (held w) (held last.lines.target.now) (first ++ lines_in sys c.args.allowed.now how show.Findings [] (schedule sys horizon)))
    _ _ _ _ _ _ _ _ begun system_is headed begun some.6)) in
    let was = some.5 refl ∙ ap (failed_after last.lines.is_out_of_memory) (ap failed begun ∙ c.requires.0) in
    at-target (λ w. IsWriteFault (held c.args.target.now) (held w) (failed w) (rows_text system c.args.allowed.now how c.args.options.now.show (schedule system horizon)) c.refusal.result)
    last.lines.target.now _ (search rules) (refused-fault _ _ _ _ c.refusal.result last.lines.is_out_of_memory c.refusal.ensures was told)
