use Rattle.std.proofs.Common.{rules, ◌≡◌, ◌∙◌, ◌++◌, [], true, ap, sym, subst, is_ok, length, IfErr, OnErr}
use Rattle.std.specs.Io.KnownBytes.{Appends}
use Rattle.std.specs.Arc.{arc_value}
use Rattle.std.proofs.lemmas.Result.{IfErr-weaker, on_ok_weaker}
use Rattle.mcs_core.specs.Clock.{schedule}
use Rattle.mcs_verdict.specs.Findings.{past_of}
use Rattle.mcs_cli.specs.Devices.{AppendsPrefix}
use Rattle.mcs_cli.specs.Flow.{AppendsBefore, IsWriteFault}
use Rattle.mcs_cli.specs.declared.fault.RunFault.TheVariants as fault
use Rattle.mcs_team.specs.declared.run.SimFault.TheVariants.{NoMemory}
use Rattle.mcs_cli.proofs.Flow.{before-all, before-longer, fault-longer, fault-memory, fault-then, prefix-before, prefix-longer}
use Rattle.mcs_why.specs.Account.{account_of}
use Rattle.mcs_explain.specs.Why.{rows_lines, round_text}
use Rattle.mcs_why_lines.specs.Account.{account_lines}
use Rattle.mcs_check_run.proofs.Results.{ok-holds}
use Rattle.mcs_explain.proofs.round.write_span.Goals as goal

pub returns-in_err-told-clause-fault : goal.returns-in_err-told-clause-fault
returns-in_err-told-clause-fault g c =
    let held = g.T.Target.contents in
    let failed = g.T.Target.has_failed in
    let span = c.args.span.now in
    let system = arc_value c.args.system.now in
    let horizon = c.args.options.now.horizon in
    let how = c.args.options.now.format in
    let short : IfErr c.from_residual.result (IsWriteFault (held c.args.target.now) (held c.tell_rows-told.new.target) (failed c.tell_rows-told.new.target)
    (rows_lines c.args.options.now.format (arc_value c.args.system.now) c.args.span.now (schedule (arc_value c.args.system.now) c.args.options.now.horizon))) = search rules in
    IfErr-weaker c.from_residual.result _ _ (λ f fault.
    fault-longer _ _ _ _ (account_lines how system span (past_of [] (schedule system horizon))) f fault) short

pub returns-in_err-put_account-clause-fault : goal.returns-in_err-put_account-clause-fault
returns-in_err-put_account-clause-fault g c =
    let span = c.args.span.now in
    let system = arc_value c.args.system.now in
    let horizon = c.args.options.now.horizon in
    let how = c.args.options.now.format in
    let out : IfErr c.from_residual-in_err-put_account.result (λ f. f ≡ fault.Sim NoMemory) = search rules in
    fault-memory _ _ _ _ c.from_residual-in_err-put_account.result c.in_ok-told.ensures.working
    (prefix-longer _ _ _ (account_lines how system span (past_of [] (schedule system horizon))) (prefix-before _ _ _ _ c.in_ok-told.ensures.ok)) out

pub returns-clause-ok : goal.returns-clause-ok
returns-clause-ok g c =
    let held = g.T.Target.contents in
    let span = c.args.span.now in
    let system = arc_value c.args.system.now in
    let horizon = c.args.options.now.horizon in
    let how = c.args.options.now.format in
    let past = past_of [] (schedule system horizon) in
    let own_is : c.deref.result.now ≡ arc_value c.args.system.now = search rules in
    let account = subst (λ s. c.in_ok-told.told.account ≡ account_of (length s.threads) span.core span.from span.to past) (sym own_is) c.in_ok-told.ensures.account in
    let done : is_ok c.put_account.result ≡ true = search rules in
    let put = ok-holds c.put_account.result done (c.put_account.ensures past account) in
    let rest_is = put ∙ ap (λ s. c.in_ok-told.told.text.items ++ account_lines how s span past) own_is in
    let longer = before-longer _ _ _ _ (account_lines how system span past) c.in_ok-told.ensures.ok in
    let all = subst (AppendsBefore (held c.args.target.now) (held c.tell_rows-told.new.target) (round_text how system span (schedule system horizon))) (sym rest_is) longer in
    on_ok_weaker c.write_text.result (λ rest. before-all _ _ _ _ _ all
    (subst (Appends (held c.tell_rows-told.new.target) (held c.write_text.new.target)) c.as_slice.ensures.value rest)) c.write_text.ensures.ok

pub returns-clause-fault : goal.returns-clause-fault
returns-clause-fault g c =
    let held = g.T.Target.contents in
    let span = c.args.span.now in
    let system = arc_value c.args.system.now in
    let horizon = c.args.options.now.horizon in
    let how = c.args.options.now.format in
    let past = past_of [] (schedule system horizon) in
    let own_is : c.deref.result.now ≡ arc_value c.args.system.now = search rules in
    let account = subst (λ s. c.in_ok-told.told.account ≡ account_of (length s.threads) span.core span.from span.to past) (sym own_is) c.in_ok-told.ensures.account in
    let done : is_ok c.put_account.result ≡ true = search rules in
    let put = ok-holds c.put_account.result done (c.put_account.ensures past account) in
    let rest_is = put ∙ ap (λ s. c.in_ok-told.told.text.items ++ account_lines how s span past) own_is in
    let longer = before-longer _ _ _ _ (account_lines how system span past) c.in_ok-told.ensures.ok in
    let all = subst (AppendsBefore (held c.args.target.now) (held c.tell_rows-told.new.target) (round_text how system span (schedule system horizon))) (sym rest_is) longer in
    let prefix = subst (λ text. OnErr c.write_text.result (AppendsPrefix (held c.tell_rows-told.new.target) (held c.write_text.new.target) text))
    c.as_slice.ensures.value c.write_text.ensures.prefix in
    fault-then _ _ _ _ _ _ c.write_text.result all prefix c.write_text.ensures.fault
