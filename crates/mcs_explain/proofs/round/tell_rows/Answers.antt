use Rattle.std.proofs.Common.{rules, ◌≡◌, ◌∙◌, [], false, Err, ap, length, sym, subst}
use Rattle.std.specs.Arc.{arc_value}
use Rattle.mcs_ticks.specs.declared.sink.FlowFault.TheVariants as fault
use Rattle.mcs_core.specs.Clock.{schedule}
use Rattle.mcs_verdict.specs.Findings.{InOrder, past_of}
use Rattle.mcs_cli.specs.Devices.{AppendsPrefix}
use Rattle.mcs_cli.specs.Flow.{AppendsBefore, IsWriteFault}
use Rattle.mcs_cli.proofs.Rows.{at-last, at-target, err-is}
use Rattle.mcs_why.specs.Account.{account_of}
use Rattle.mcs_explain.specs.Why.{rows_lines}
use Rattle.mcs_check_run.specs.Lines.{failed_after}
use Rattle.mcs_check_run.proofs.Results.{moved, refused-fault}
use Rattle.mcs_explain.proofs.Tellers.{rows-given, rows-some, rows-until}
use Rattle.mcs_explain.proofs.round.tell_rows.Goals as goal

pub returns-in-Ok-clause-ok : goal.returns-in-Ok-clause-ok
returns-in-Ok-clause-ok g c =
    let held = g.T.Target.contents in
    let failed = g.T.Target.has_failed in
    let first = c.new-teller.result in
    let last = c.schedule_to-result.new.sink in
    let span = c.args.span.now in
    let horizon = c.args.options.now.horizon in
    let how = c.args.options.now.format in
    let system = arc_value c.args.system.now in
    let threads = length (arc_value c.args.system.now).threads in
    let shared_is : arc_value c.in_ok-shared.shared ≡ arc_value c.args.system.now = search rules in
    let ordered : InOrder [] (schedule (arc_value c.args.system.now) c.args.options.now.horizon) = search rules in
    let order = subst (λ s. InOrder [] (schedule s horizon)) (sym shared_is) ordered in
    let empty : c.new-teller.result.told.now.text.items ≡ [] = search rules in
    let account : c.new-teller.result.told.now.account ≡ account_of (length (arc_value c.args.system.now).threads) c.args.span.now.core c.args.span.now.from c.args.span.now.to [] = search rules in
    let system_is : c.new-teller.result.system.now ≡ arc_value c.args.system.now = search rules in
    let format_is : c.new-teller.result.format ≡ c.args.options.now.format = search rules in
    let begun : c.new-teller.result.lines.target.now ≡ c.args.target.now = search rules in
    let ended = rows-given held failed first threads span last (schedule (arc_value c.in_ok-shared.shared) horizon) order empty account c.in-Ok.ensures.given in
    let target_is : c.schedule_to-result.new.sink.lines.target.ghost_name ≡ c.new-teller.result.lines.target.ghost_name = ended.0.target_is in
    let told_is : c.schedule_to-result.new.sink.told.ghost_name ≡ c.new-teller.result.told.ghost_name = ended.0.told_is in
    let told : AppendsBefore (held c.args.target.now) (held last.lines.target.now) (rows_lines how system span (schedule system horizon)) last.told.now.text.items =
    moved (λ w form sys own. AppendsBefore (held w) (held last.lines.target.now) (rows_lines form sys span (schedule own horizon)) last.told.now.text.items)
    _ _ _ _ _ _ _ _ begun format_is system_is shared_is ended.1 in
    at-last (λ w text. AppendsBefore (held c.args.target.now) (held w) (rows_lines how system span (schedule system horizon)) text)
    last.lines.target.now _ last.told.now.text.items _ (search rules) (search rules) told

pub returns-in-Ok-clause-account : goal.returns-in-Ok-clause-account
returns-in-Ok-clause-account g c =
    let held = g.T.Target.contents in
    let failed = g.T.Target.has_failed in
    let first = c.new-teller.result in
    let last = c.schedule_to-result.new.sink in
    let span = c.args.span.now in
    let horizon = c.args.options.now.horizon in
    let threads = length (arc_value c.args.system.now).threads in
    let shared_is : arc_value c.in_ok-shared.shared ≡ arc_value c.args.system.now = search rules in
    let ordered : InOrder [] (schedule (arc_value c.args.system.now) c.args.options.now.horizon) = search rules in
    let order = subst (λ s. InOrder [] (schedule s horizon)) (sym shared_is) ordered in
    let empty : c.new-teller.result.told.now.text.items ≡ [] = search rules in
    let account : c.new-teller.result.told.now.account ≡ account_of (length (arc_value c.args.system.now).threads) c.args.span.now.core c.args.span.now.from c.args.span.now.to [] = search rules in
    let ended = rows-given held failed first threads span last (schedule (arc_value c.in_ok-shared.shared) horizon) order empty account c.in-Ok.ensures.given in
    let told_is : c.schedule_to-result.new.sink.told.ghost_name ≡ c.new-teller.result.told.ghost_name = ended.0.told_is in
    let told : last.told.now.account ≡ account_of threads span.core span.from span.to (past_of [] (schedule (arc_value c.args.system.now) horizon)) =
    ended.0.account_is ∙ ap (λ s. account_of threads span.core span.from span.to (past_of [] (schedule s horizon))) shared_is in
    at-target (λ a. a ≡ account_of threads span.core span.from span.to (past_of [] (schedule (arc_value c.args.system.now) horizon))) last.told.now.account _ (search rules) told

pub returns-in-Ok-clause-working : goal.returns-in-Ok-clause-working
returns-in-Ok-clause-working g c =
    let held = g.T.Target.contents in
    let failed = g.T.Target.has_failed in
    let first = c.new-teller.result in
    let last = c.schedule_to-result.new.sink in
    let span = c.args.span.now in
    let horizon = c.args.options.now.horizon in
    let threads = length (arc_value c.args.system.now).threads in
    let shared_is : arc_value c.in_ok-shared.shared ≡ arc_value c.args.system.now = search rules in
    let ordered : InOrder [] (schedule (arc_value c.args.system.now) c.args.options.now.horizon) = search rules in
    let order = subst (λ s. InOrder [] (schedule s horizon)) (sym shared_is) ordered in
    let empty : c.new-teller.result.told.now.text.items ≡ [] = search rules in
    let account : c.new-teller.result.told.now.account ≡ account_of (length (arc_value c.args.system.now).threads) c.args.span.now.core c.args.span.now.from c.args.span.now.to [] = search rules in
    let begun : c.new-teller.result.lines.target.now ≡ c.args.target.now = search rules in
    let ended = rows-given held failed first threads span last (schedule (arc_value c.in_ok-shared.shared) horizon) order empty account c.in-Ok.ensures.given in
    let target_is : c.schedule_to-result.new.sink.lines.target.ghost_name ≡ c.new-teller.result.lines.target.ghost_name = ended.0.target_is in
    at-target (λ w. failed w ≡ false) last.lines.target.now _ (search rules) (ended.0.working ∙ ap failed begun ∙ c.requires.working)

pub returns-in-Err-NoMemory-clause-fault : goal.returns-in-Err-NoMemory-clause-fault
returns-in-Err-NoMemory-clause-fault g c =
    let held = g.T.Target.contents in
    let failed = g.T.Target.has_failed in
    let first = c.new-teller.result in
    let last = c.schedule_to-result.new.sink in
    let span = c.args.span.now in
    let horizon = c.args.options.now.horizon in
    let how = c.args.options.now.format in
    let system = arc_value c.args.system.now in
    let threads = length (arc_value c.args.system.now).threads in
    let shared_is : arc_value c.in_ok-shared.shared ≡ arc_value c.args.system.now = search rules in
    let ordered : InOrder [] (schedule (arc_value c.args.system.now) c.args.options.now.horizon) = search rules in
    let order = subst (λ s. InOrder [] (schedule s horizon)) (sym shared_is) ordered in
    let empty : c.new-teller.result.told.now.text.items ≡ [] = search rules in
    let account : c.new-teller.result.told.now.account ≡ account_of (length (arc_value c.args.system.now).threads) c.args.span.now.core c.args.span.now.from c.args.span.now.to [] = search rules in
    let system_is : c.new-teller.result.system.now ≡ arc_value c.args.system.now = search rules in
    let format_is : c.new-teller.result.format ≡ c.args.options.now.format = search rules in
    let begun : c.new-teller.result.lines.target.now ≡ c.args.target.now = search rules in
    let is : c.schedule_to-result.result ≡ Err fault.NoMemory = search rules in
    let ended = rows-some held failed first threads span last (schedule (arc_value c.in_ok-shared.shared) horizon) order empty account
    (err-is _ c.schedule_to-result.result fault.NoMemory is c.schedule_to-result.ensures.fault) in
    let target_is : c.schedule_to-result.new.sink.lines.target.ghost_name ≡ c.new-teller.result.lines.target.ghost_name = ended.0.1.target_is in
    let told : AppendsPrefix (held c.args.target.now) (held last.lines.target.now) (rows_lines how system span (schedule system horizon)) =
    moved (λ w form sys own. AppendsPrefix (held w) (held last.lines.target.now) (rows_lines form sys span (schedule own horizon)))
    _ _ _ _ _ _ _ _ begun format_is system_is shared_is ended.1 in
    at-target (λ w. (failed w ≡ false) × AppendsPrefix (held c.args.target.now) (held w) (rows_lines how system span (schedule system horizon)))
    last.lines.target.now _ (search rules) (ended.0.1.working ∙ ap failed begun ∙ c.requires.working, told)

pub returns-clause-fault : goal.returns-clause-fault
returns-clause-fault g c =
    let held = g.T.Target.contents in
    let failed = g.T.Target.has_failed in
    let first = c.new-teller.result in
    let last = c.schedule_to-result.new.sink in
    let span = c.args.span.now in
    let horizon = c.args.options.now.horizon in
    let how = c.args.options.now.format in
    let system = arc_value c.args.system.now in
    let threads = length (arc_value c.args.system.now).threads in
    let shared_is : arc_value c.in_ok-shared.shared ≡ arc_value c.args.system.now = search rules in
    let ordered : InOrder [] (schedule (arc_value c.args.system.now) c.args.options.now.horizon) = search rules in
    let order = subst (λ s. InOrder [] (schedule s horizon)) (sym shared_is) ordered in
    let empty : c.new-teller.result.told.now.text.items ≡ [] = search rules in
    let account : c.new-teller.result.told.now.account ≡ account_of (length (arc_value c.args.system.now).threads) c.args.span.now.core c.args.span.now.from c.args.span.now.to [] = search rules in
    let system_is : c.new-teller.result.system.now ≡ arc_value c.args.system.now = search rules in
    let format_is : c.new-teller.result.format ≡ c.args.options.now.format = search rules in
    let begun : c.new-teller.result.lines.target.now ≡ c.args.target.now = search rules in
    let is : c.schedule_to-result.result ≡ Err fault.Sink = search rules in
    let ended = rows-until held failed first threads span last (schedule (arc_value c.in_ok-shared.shared) horizon) order empty account
    (err-is _ c.schedule_to-result.result fault.Sink is c.schedule_to-result.ensures.fault) in
    let target_is : c.schedule_to-result.new.sink.lines.target.ghost_name ≡ c.new-teller.result.lines.target.ghost_name = ended.0.target_is in
    let told : AppendsPrefix (held c.args.target.now) (held last.lines.target.now) (rows_lines how system span (schedule system horizon)) =
    moved (λ w form sys own. AppendsPrefix (held w) (held last.lines.target.now) (rows_lines form sys span (schedule own horizon)))
    _ _ _ _ _ _ _ _ begun format_is system_is shared_is ended.1 in
    let was = ended.0.failed_is ∙ ap (failed_after last.lines.is_out_of_memory) (ap failed begun ∙ c.requires.working) in
    at-target (λ w. IsWriteFault (held c.args.target.now) (held w) (failed w) (rows_lines how system span (schedule system horizon)) c.refusal.result)
    last.lines.target.now _ (search rules) (refused-fault _ _ _ _ c.refusal.result last.lines.is_out_of_memory c.refusal.ensures was told)
