use Rattle.std.proofs.Common.{rules, ◌≡◌, ◌∙◌, ◌++◌, [], None, true, ap, ap₂, sym, subst, is_ok, IfErr, IfSome, OnErr, length}
use Rattle.std.specs.Io.KnownBytes.{Appends}
use Rattle.std.specs.Arc.{arc_value}
use Rattle.std.proofs.lemmas.Result.{IfErr-weaker}
use Rattle.mcs_ticks.specs.Capped.{capped}
use Rattle.mcs_system.specs.System.{System}
use Rattle.mcs_core.specs.Clock.{schedule}
use Rattle.mcs_hints.specs.Hints.{hints_of}
use Rattle.mcs_verdict.specs.Findings.{InOrder, UpTo, all_at_end, past_of}
use Rattle.mcs_cli.specs.Devices.{AppendsPrefix}
use Rattle.mcs_cli.specs.Flow.{AppendsBefore, IsWriteFault}
use Rattle.mcs_cli.specs.declared.fault.RunFault.TheVariants as fault
use Rattle.mcs_team.specs.declared.run.SimFault.TheVariants.{NoMemory}
use Rattle.mcs_cli.proofs.Flow.{before-all, before-longer, before-none, fault-longer, fault-memory, fault-then, prefix-before, prefix-longer}
use Rattle.mcs_check_run.specs.Allowed.{flags_of, names_of}
use Rattle.mcs_check.specs.Check.{check_text, counts_of}
use Rattle.mcs_check_lines.specs.Counts.{no_counts, with_hints}
use Rattle.mcs_check_lines.specs.Formats.{counts_line}
use Rattle.mcs_chain.specs.Found.{all_unanswered}
use Rattle.mcs_chain.specs.Watch.{all_due, all_judged_many, all_slow_many, watch_of as chains_of}
use Rattle.mcs_check.specs.declared.all_found.AllFound.{AllFound}
use Rattle.mcs_check.specs.Judged.{all_unjudged, judged_rounds}
use Rattle.mcs_check.specs.stored.AllFound.{checked_of, kept_of, IsKeptOf}
use Rattle.mcs_check.specs.stored.Rows.{counts_found, counts_in, rest_lines, rows_text, tabled_lines}
use Rattle.mcs_check.proofs.AllFound.{kept-accounts}
use Rattle.mcs_check_run.proofs.Results.{ok-holds}
use Rattle.mcs_check.proofs.Texts.{behind, checked-put, counts-put, rest_text, text-is}
use Rattle.mcs_check.proofs.run.write_check.Goals as goal

pub returns-in_err-system-clause-fault : goal.returns-in_err-system-clause-fault
returns-in_err-system-clause-fault g c =
    let held = g.T.Target.contents c.args.target.now in
    let out : IfErr c.from_residual.result (λ f. f ≡ fault.Sim NoMemory) = search rules in
    fault-memory held held _ _ c.from_residual.result c.requires.working (prefix-before _ _ _ _ (before-none held _)) out

pub returns-in_err-allowed-clause-fault : goal.returns-in_err-allowed-clause-fault
returns-in_err-allowed-clause-fault g c =
    let held = g.T.Target.contents c.args.target.now in
    let out : IfErr c.from_residual-in_err-allowed.result (λ f. f ≡ fault.Sim NoMemory) = search rules in
    fault-memory held held _ _ c.from_residual-in_err-allowed.result c.requires.working (prefix-before _ _ _ _ (before-none held _)) out

pub returns-in_err-all-clause-fault : goal.returns-in_err-all-clause-fault
returns-in_err-all-clause-fault g c =
    let held = g.T.Target.contents in
    let failed = g.T.Target.has_failed in
    let names = names_of c.args.options.now in
    let system = c.args.system in
    let horizon = c.args.options.now.horizon in
    let asked = c.args.options.now.show in
    let how = c.args.options.now.format in
    let flags_are : c.as_slice-allowed.result.now ≡ flags_of names system.notes = search rules in
    let ordered : InOrder [] (schedule c.args.system c.args.options.now.horizon) = search rules in
    let system_is : arc_value c.in_ok-system.system ≡ system = search rules in
    let short : IfErr c.from_residual-in_err-all.result (IsWriteFault (held c.args.target.now) (held c.find_rows-found.new.target) (failed c.find_rows-found.new.target)
    (rows_text (arc_value c.in_ok-system.system) c.as_slice-allowed.result.now how asked (schedule (arc_value c.in_ok-system.system) horizon))) = search rules in
    IfErr-weaker c.from_residual-in_err-all.result _ _ (λ f fault.
    subst (λ text. IsWriteFault (held c.args.target.now) (held c.find_rows-found.new.target) (failed c.find_rows-found.new.target) text f) (text-is names system horizon ordered how asked)
    (fault-longer _ _ _ _ (rest_text how asked names system horizon (counts_of names system horizon)) f (rw (flags_are, system_is) at fault))) short

pub returns-in_err-put_rest-clause-fault : goal.returns-in_err-put_rest-clause-fault
returns-in_err-put_rest-clause-fault g c =
    let held = g.T.Target.contents in
    let names = names_of c.args.options.now in
    let system = c.args.system in
    let horizon = c.args.options.now.horizon in
    let asked = c.args.options.now.show in
    let how = c.args.options.now.format in
    let flags_are : c.as_slice-allowed.result.now ≡ flags_of names system.notes = search rules in
    let ordered : InOrder [] (schedule c.args.system c.args.options.now.horizon) = search rules in
    let system_is : arc_value c.in_ok-system.system ≡ system = search rules in
    let begun : AppendsPrefix (held c.args.target.now) (held c.find_rows-found.new.target) (rows_text system (flags_of names system.notes) how asked (schedule system horizon)) =
    rw (← flags_are, ← system_is) (prefix-before _ _ _ _ c.in_ok-all.ensures.ok.text) in
    let out : IfErr c.from_residual-in_err-put_rest.result (λ f. f ≡ fault.Sim NoMemory) = search rules in
    fault-memory _ _ _ _ c.from_residual-in_err-put_rest.result c.in_ok-all.ensures.working
    (subst (AppendsPrefix (held c.args.target.now) (held c.find_rows-found.new.target)) (text-is names system horizon ordered how asked)
    (prefix-longer _ _ _ (rest_text how asked names system horizon (counts_of names system horizon)) begun)) out

pub returns-in_err-write_text-clause-fault : goal.returns-in_err-write_text-clause-fault
returns-in_err-write_text-clause-fault g c =
    let held = g.T.Target.contents in
    let names = names_of c.args.options.now in
    let system = c.args.system in
    let horizon = c.args.options.now.horizon in
    let asked = c.args.options.now.show in
    let how = c.args.options.now.format in
    let flags_are : c.as_slice-allowed.result.now ≡ flags_of names system.notes = search rules in
    let ordered : InOrder [] (schedule c.args.system c.args.options.now.horizon) = search rules in
    let system_is : arc_value c.in_ok-system.system ≡ c.args.system = search rules in
    let own_is : c.deref-2.result.now ≡ c.args.system = search rules in
    let kept = c.in_ok-all.ensures.ok.kept ∙ ap (λ s. kept_of asked s horizon (past_of [] (schedule s horizon))) system_is
    ∙ ap (λ s. kept_of asked s horizon (past_of [] (schedule system horizon))) (sym own_is) in
    let in_time = subst (λ s. UpTo horizon (past_of [] (schedule s horizon))) system_is c.in_ok-all.ensures.ok.in_time in
    let counted_are = c.in_ok-all.ensures.ok.counts ∙ ap₂ (λ s flags. counts_in s flags [] (schedule s horizon) no_counts) system_is flags_are in
    let done : is_ok c.put_rest.result ≡ true = search rules in
    let due_are = c.in_ok-all.ensures.ok.due ∙ ap (λ s. all_due None 0 (chains_of s (past_of [] (schedule s horizon))).each) system_is in
    let slow_is = c.in_ok-all.ensures.ok.slow ∙ ap (λ s. all_slow_many (chains_of s (past_of [] (schedule s horizon))).each) system_is in
    let unanswered_are = c.in_ok-all.ensures.ok.unanswered ∙ ap (λ (s : System). all_unanswered s (past_of [] (schedule s horizon)) horizon 0 s.chains) system_is in
    let rounds_are = c.in_ok-all.ensures.ok.rounds ∙ ap (λ s. capped (judged_rounds s (past_of [] (schedule s horizon)))) system_is in
    let answers_are = c.in_ok-all.ensures.ok.answers ∙ ap (λ s. all_judged_many (chains_of s (past_of [] (schedule s horizon))).each) system_is in
    let unjudged_are = c.in_ok-all.ensures.ok.unjudged ∙ ap (λ s. all_unjudged s (past_of [] (schedule s horizon)) horizon) system_is in
    let ended_are = c.in_ok-all.ensures.ok.unended ∙ ap (λ (s : System). all_at_end s (past_of [] (schedule s horizon)) horizon) system_is in
    let others = c.put_rest.ensures.others in
    let unended = c.in_ok-all.ensures.ok.unended ∙ ap (λ (s : System). all_at_end s (past_of [] (schedule s horizon)) horizon) system_is
    ∙ ap (λ (s : System). all_at_end s (past_of [] (schedule system horizon)) horizon) (sym own_is) in
    let counted = subst (λ found. c.put_rest.new.all.counts ≡ with_hints (length (hints_of c.deref-2.result.now)) (counts_found c.as_slice-allowed.result.now found c.in_ok-all.all.counts)) unended
    (ok-holds c.put_rest.result done c.put_rest.ensures.counts) in
    let counts_are = counts-put names system horizon _ _ _ _ flags_are own_is counted_are counted in
    let checked_are = checked-put names system horizon c.deref-2.result.now c.put_rest.new.all own_is counts_are (ap (λ (a : AllFound). a.slow) others ∙ slow_is)
    (ap (λ (a : AllFound). a.unanswered.items) others ∙ unanswered_are) (ap (λ (a : AllFound). a.unended.items) others ∙ ended_are)
    (ap (λ (a : AllFound). a.rounds) others ∙ rounds_are) (ap (λ (a : AllFound). a.answers) others ∙ answers_are)
    (ap (λ (a : AllFound). a.unjudged.items) others ∙ unjudged_are) in
    let put = subst (λ found. c.put_rest.new.all.text.items ≡ c.in_ok-all.all.text.items
    ++ rest_lines how asked c.deref-2.result.now c.as_slice-allowed.result.now c.in_ok-all.all.due.items found c.in_ok-all.all.unanswered.items c.in_ok-all.all.unjudged.items
    ++ tabled_lines how asked c.deref-2.result.now horizon (past_of [] (schedule system horizon)) ++ counts_line how (checked_of c.deref-2.result.now c.put_rest.new.all)) unended
    (ok-holds c.put_rest.result done (c.put_rest.ensures.text (past_of [] (schedule system horizon)) kept in_time)) in
    let rest_is = behind names system horizon how asked _ _ _ _ _ _ _ _ flags_are own_is checked_are due_are unanswered_are unjudged_are put in
    let told = subst (λ flags. AppendsBefore (held c.args.target.now) (held c.find_rows-found.new.target) (rows_text system flags how asked (schedule system horizon)) c.in_ok-all.all.text.items) flags_are
    (subst (λ s. AppendsBefore (held c.args.target.now) (held c.find_rows-found.new.target) (rows_text s c.as_slice-allowed.result.now how asked (schedule s horizon)) c.in_ok-all.all.text.items) system_is c.in_ok-all.ensures.ok.text) in
    let longer = before-longer _ _ _ _ (rest_text how asked names system horizon (counts_of names system horizon)) told in
    let all = subst (λ text. AppendsBefore (held c.args.target.now) (held c.find_rows-found.new.target) text c.put_rest.new.all.text.items) (text-is names system horizon ordered how asked)
    (subst (λ rest. AppendsBefore (held c.args.target.now) (held c.find_rows-found.new.target) (rows_text system (flags_of names system.notes) how asked (schedule system horizon) ++ rest_text how asked names system horizon (counts_of names system horizon)) rest) (sym rest_is) longer) in
    let prefix : OnErr c.write_text.result (AppendsPrefix (held c.find_rows-found.new.target) (held c.write_text.new.target) c.put_rest.new.all.text.items) =
    subst (λ text. OnErr c.write_text.result (AppendsPrefix (held c.find_rows-found.new.target) (held c.write_text.new.target) text)) c.as_slice-2.ensures.value c.write_text.ensures.prefix in
    let whole : IfErr c.write_text.result (IsWriteFault (held c.args.target.now) (held c.write_text.new.target) (g.T.Target.has_failed c.write_text.new.target)
    (check_text (names_of c.args.options.now) c.args.system c.args.options.now.horizon c.args.options.now.format c.args.options.now.show)) =
    fault-then _ _ _ _ _ _ c.write_text.result all prefix c.write_text.ensures.fault in
    search rules

pub returns-clause-ok : goal.returns-clause-ok
returns-clause-ok g c =
    let held = g.T.Target.contents in
    let names = names_of c.args.options.now in
    let system = c.args.system in
    let horizon = c.args.options.now.horizon in
    let asked = c.args.options.now.show in
    let how = c.args.options.now.format in
    let flags_are : c.as_slice-allowed.result.now ≡ flags_of names system.notes = search rules in
    let ordered : InOrder [] (schedule c.args.system c.args.options.now.horizon) = search rules in
    let system_is : arc_value c.in_ok-system.system ≡ c.args.system = search rules in
    let own_is : c.deref-2.result.now ≡ c.args.system = search rules in
    let kept = c.in_ok-all.ensures.ok.kept ∙ ap (λ s. kept_of asked s horizon (past_of [] (schedule s horizon))) system_is
    ∙ ap (λ s. kept_of asked s horizon (past_of [] (schedule system horizon))) (sym own_is) in
    let in_time = subst (λ s. UpTo horizon (past_of [] (schedule s horizon))) system_is c.in_ok-all.ensures.ok.in_time in
    let counted_are = c.in_ok-all.ensures.ok.counts ∙ ap₂ (λ s flags. counts_in s flags [] (schedule s horizon) no_counts) system_is flags_are in
    let done : is_ok c.put_rest.result ≡ true = search rules in
    let due_are = c.in_ok-all.ensures.ok.due ∙ ap (λ s. all_due None 0 (chains_of s (past_of [] (schedule s horizon))).each) system_is in
    let slow_is = c.in_ok-all.ensures.ok.slow ∙ ap (λ s. all_slow_many (chains_of s (past_of [] (schedule s horizon))).each) system_is in
    let unanswered_are = c.in_ok-all.ensures.ok.unanswered ∙ ap (λ (s : System). all_unanswered s (past_of [] (schedule s horizon)) horizon 0 s.chains) system_is in
    let rounds_are = c.in_ok-all.ensures.ok.rounds ∙ ap (λ s. capped (judged_rounds s (past_of [] (schedule s horizon)))) system_is in
    let answers_are = c.in_ok-all.ensures.ok.answers ∙ ap (λ s. all_judged_many (chains_of s (past_of [] (schedule s horizon))).each) system_is in
    let unjudged_are = c.in_ok-all.ensures.ok.unjudged ∙ ap (λ s. all_unjudged s (past_of [] (schedule s horizon)) horizon) system_is in
    let ended_are = c.in_ok-all.ensures.ok.unended ∙ ap (λ (s : System). all_at_end s (past_of [] (schedule s horizon)) horizon) system_is in
    let others = c.put_rest.ensures.others in
    let unended = c.in_ok-all.ensures.ok.unended ∙ ap (λ (s : System). all_at_end s (past_of [] (schedule s horizon)) horizon) system_is
    ∙ ap (λ (s : System). all_at_end s (past_of [] (schedule system horizon)) horizon) (sym own_is) in
    let counted = subst (λ found. c.put_rest.new.all.counts ≡ with_hints (length (hints_of c.deref-2.result.now)) (counts_found c.as_slice-allowed.result.now found c.in_ok-all.all.counts)) unended
    (ok-holds c.put_rest.result done c.put_rest.ensures.counts) in
    let counts_are = counts-put names system horizon _ _ _ _ flags_are own_is counted_are counted in
    let checked_are = checked-put names system horizon c.deref-2.result.now c.put_rest.new.all own_is counts_are (ap (λ (a : AllFound). a.slow) others ∙ slow_is)
    (ap (λ (a : AllFound). a.unanswered.items) others ∙ unanswered_are) (ap (λ (a : AllFound). a.unended.items) others ∙ ended_are)
    (ap (λ (a : AllFound). a.rounds) others ∙ rounds_are) (ap (λ (a : AllFound). a.answers) others ∙ answers_are)
    (ap (λ (a : AllFound). a.unjudged.items) others ∙ unjudged_are) in
    let put = subst (λ found. c.put_rest.new.all.text.items ≡ c.in_ok-all.all.text.items
    ++ rest_lines how asked c.deref-2.result.now c.as_slice-allowed.result.now c.in_ok-all.all.due.items found c.in_ok-all.all.unanswered.items c.in_ok-all.all.unjudged.items
    ++ tabled_lines how asked c.deref-2.result.now horizon (past_of [] (schedule system horizon)) ++ counts_line how (checked_of c.deref-2.result.now c.put_rest.new.all)) unended
    (ok-holds c.put_rest.result done (c.put_rest.ensures.text (past_of [] (schedule system horizon)) kept in_time)) in
    let rest_is = behind names system horizon how asked _ _ _ _ _ _ _ _ flags_are own_is checked_are due_are unanswered_are unjudged_are put in
    let told = subst (λ flags. AppendsBefore (held c.args.target.now) (held c.find_rows-found.new.target) (rows_text system flags how asked (schedule system horizon)) c.in_ok-all.all.text.items) flags_are
    (subst (λ s. AppendsBefore (held c.args.target.now) (held c.find_rows-found.new.target) (rows_text s c.as_slice-allowed.result.now how asked (schedule s horizon)) c.in_ok-all.all.text.items) system_is c.in_ok-all.ensures.ok.text) in
    let longer = before-longer _ _ _ _ (rest_text how asked names system horizon (counts_of names system horizon)) told in
    let all = subst (λ text. AppendsBefore (held c.args.target.now) (held c.find_rows-found.new.target) text c.put_rest.new.all.text.items) (text-is names system horizon ordered how asked)
    (subst (λ rest. AppendsBefore (held c.args.target.now) (held c.find_rows-found.new.target) (rows_text system (flags_of names system.notes) how asked (schedule system horizon) ++ rest_text how asked names system horizon (counts_of names system horizon)) rest) (sym rest_is) longer) in
    let rest : Appends (held c.find_rows-found.new.target) (held c.write_text.new.target) c.put_rest.new.all.text.items =
    subst (Appends (held c.find_rows-found.new.target) (held c.write_text.new.target)) c.as_slice-2.ensures.value c.in_ok-write_text.ensures.ok in
    before-all _ _ _ _ _ all rest

pub returns-clause-counted : goal.returns-clause-counted
returns-clause-counted g c =
    let held = g.T.Target.contents in
    let names = names_of c.args.options.now in
    let system = c.args.system in
    let horizon = c.args.options.now.horizon in
    let flags_are : c.as_slice-allowed.result.now ≡ flags_of names system.notes = search rules in
    let ordered : InOrder [] (schedule c.args.system c.args.options.now.horizon) = search rules in
    let system_is : arc_value c.in_ok-system.system ≡ c.args.system = search rules in
    let own_is : c.deref-2.result.now ≡ c.args.system = search rules in
    let in_time = subst (λ s. UpTo horizon (past_of [] (schedule s horizon))) system_is c.in_ok-all.ensures.ok.in_time in
    let counted_are = c.in_ok-all.ensures.ok.counts ∙ ap₂ (λ s flags. counts_in s flags [] (schedule s horizon) no_counts) system_is flags_are in
    let done : is_ok c.put_rest.result ≡ true = search rules in
    let due_are = c.in_ok-all.ensures.ok.due ∙ ap (λ s. all_due None 0 (chains_of s (past_of [] (schedule s horizon))).each) system_is in
    let slow_is = c.in_ok-all.ensures.ok.slow ∙ ap (λ s. all_slow_many (chains_of s (past_of [] (schedule s horizon))).each) system_is in
    let unanswered_are = c.in_ok-all.ensures.ok.unanswered ∙ ap (λ (s : System). all_unanswered s (past_of [] (schedule s horizon)) horizon 0 s.chains) system_is in
    let rounds_are = c.in_ok-all.ensures.ok.rounds ∙ ap (λ s. capped (judged_rounds s (past_of [] (schedule s horizon)))) system_is in
    let answers_are = c.in_ok-all.ensures.ok.answers ∙ ap (λ s. all_judged_many (chains_of s (past_of [] (schedule s horizon))).each) system_is in
    let unjudged_are = c.in_ok-all.ensures.ok.unjudged ∙ ap (λ s. all_unjudged s (past_of [] (schedule s horizon)) horizon) system_is in
    let ended_are = c.in_ok-all.ensures.ok.unended ∙ ap (λ (s : System). all_at_end s (past_of [] (schedule s horizon)) horizon) system_is in
    let others = c.put_rest.ensures.others in
    let unended = c.in_ok-all.ensures.ok.unended ∙ ap (λ (s : System). all_at_end s (past_of [] (schedule s horizon)) horizon) system_is
    ∙ ap (λ (s : System). all_at_end s (past_of [] (schedule system horizon)) horizon) (sym own_is) in
    let counted = subst (λ found. c.put_rest.new.all.counts ≡ with_hints (length (hints_of c.deref-2.result.now)) (counts_found c.as_slice-allowed.result.now found c.in_ok-all.all.counts)) unended
    (ok-holds c.put_rest.result done c.put_rest.ensures.counts) in
    let counts_are = counts-put names system horizon _ _ _ _ flags_are own_is counted_are counted in
    c.checked_of.ensures
    ∙ checked-put names system horizon c.deref-3.result.now c.put_rest.new.all (search rules) counts_are (ap (λ (a : AllFound). a.slow) others ∙ slow_is)
    (ap (λ (a : AllFound). a.unanswered.items) others ∙ unanswered_are) (ap (λ (a : AllFound). a.unended.items) others ∙ ended_are)
    (ap (λ (a : AllFound). a.rounds) others ∙ rounds_are) (ap (λ (a : AllFound). a.answers) others ∙ answers_are)
    (ap (λ (a : AllFound). a.unjudged.items) others ∙ unjudged_are)

-- one account for each thread
pub put_rest-requires : goal.put_rest-requires
put_rest-requires g c =
    let horizon = c.args.options.now.horizon in
    let asked = c.args.options.now.show in
    let system = c.args.system in
    let own = c.deref-2.result.now in
    let past = past_of [] (schedule c.args.system horizon) in
    let system_is : arc_value c.in_ok-system.system ≡ c.args.system = search rules in
    let own_is : c.deref-2.result.now ≡ c.args.system = search rules in
    let kept = c.in_ok-all.ensures.ok.kept ∙ ap (λ s. kept_of asked s horizon (past_of [] (schedule s horizon))) system_is
    ∙ ap (λ s. kept_of asked s horizon (past_of [] (schedule system horizon))) (sym own_is) in
    subst (λ o. IfSome o (IsKeptOf own)) (sym kept) (kept-accounts c.args.options.now.format own horizon past asked)
