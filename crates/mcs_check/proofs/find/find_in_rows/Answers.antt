use Rattle.std.proofs.Common.{rules, ◌≡◌, ◌∙◌, [], false, Err, ap, ap₂, sym, subst}
use Rattle.std.specs.Arc.{arc_value}
use Rattle.mcs_ticks.specs.declared.sink.FlowFault.TheVariants as fault
use Rattle.mcs_core.specs.Clock.{schedule}
use Rattle.mcs_verdict.specs.Findings.{InOrder, past_of}
use Rattle.mcs_cli.specs.Devices.{AppendsPrefix}
use Rattle.mcs_cli.specs.Flow.{AppendsBefore, IsWriteFault}
use Rattle.mcs_cli.proofs.Rows.{at-last, at-target, err-is}
use Rattle.mcs_check_lines.specs.Counts.{no_counts}
use Rattle.mcs_check_lines.specs.Formats.{head_text}
use Rattle.mcs_check.specs.stored.Rows.{counts_in, kept_table, rows_text}
use Rattle.mcs_check_run.specs.Lines.{failed_after}
use Rattle.mcs_check.specs.stored.Watches.{watches_of}
use Rattle.mcs_check.proofs.Finders.{rows-given, rows-some, rows-until}
use Rattle.mcs_check_run.proofs.Results.{moved, refused-fault}
use Rattle.mcs_check.proofs.find.find_in_rows.Goals as goal

pub returns-in-Ok-clause-ok : goal.returns-in-Ok-clause-ok
returns-in-Ok-clause-ok g c =
    let held = g.T.Target.contents in
    let failed = g.T.Target.has_failed in
    let first = c.new-finder.result in
    let last = c.schedule_to-result.new.sink in
    let options = c.args.options.now in
    let horizon = options.horizon in
    let asked = options.show in
    let how = options.format in
    let system = arc_value c.args.system.now in
    let shared_is : arc_value c.in_ok-shared.shared ≡ arc_value c.args.system.now = search rules in
    let ordered : InOrder [] (schedule (arc_value c.args.system.now) horizon) = search rules in
    let order = subst (λ s. InOrder [] (schedule s horizon)) (sym shared_is) ordered in
    let headed_here : c.new-finder.result.seen.now.text.items ≡ head_text c.args.options.now.format c.args.options.now.show (arc_value c.args.system.now) = search rules in
    let none : c.new-finder.result.seen.now.counts ≡ no_counts = search rules in
    let system_is : c.new-finder.result.system.now ≡ arc_value c.args.system.now = search rules in
    let allowed_is : c.new-finder.result.allowed.now ≡ c.args.allowed.now = search rules in
    let show_is : c.new-finder.result.show ≡ c.args.options.now.show = search rules in
    let format_is : c.new-finder.result.format ≡ c.args.options.now.format = search rules in
    let headed = subst (λ s. c.new-finder.result.seen.now.text.items ≡ head_text c.new-finder.result.format c.new-finder.result.show s) (sym system_is)
    (headed_here ∙ sym (ap₂ (λ form asked. head_text form asked (arc_value c.args.system.now)) format_is show_is)) in
    let watch : c.new-finder.result.seen.now.watch ≡ watches_of (arc_value c.args.system.now) [] = search rules in
    let watch_is = subst (λ s. c.new-finder.result.seen.now.watch ≡ watches_of s []) (sym system_is) watch in
    let begun : c.new-finder.result.lines.target.now ≡ c.args.target.now = search rules in
    let table : c.new-finder.result.seen.now.table ≡ kept_table c.args.options.now.show (arc_value c.args.system.now) c.args.options.now.horizon [] = search rules in
    let table_is = subst (λ s. c.new-finder.result.seen.now.table ≡ kept_table c.new-finder.result.show s horizon []) (sym system_is)
    (subst (λ a. c.new-finder.result.seen.now.table ≡ kept_table a (arc_value c.args.system.now) horizon []) (sym show_is) table) in
    let ended = rows-given held failed first horizon last (schedule (arc_value c.in_ok-shared.shared) horizon) order headed watch_is none table_is c.in-Ok.ensures.given in
    let target_is : c.schedule_to-result.new.sink.lines.target.ghost_name ≡ c.new-finder.result.lines.target.ghost_name = ended.0.target_is in
    let seen_is : c.schedule_to-result.new.sink.seen.ghost_name ≡ c.new-finder.result.seen.ghost_name = ended.0.seen_is in
    let told : AppendsBefore (held c.args.target.now) (held last.lines.target.now) (rows_text system c.args.allowed.now how asked (schedule system horizon)) last.seen.now.text.items =
    subst (λ form. AppendsBefore (held c.args.target.now) (held last.lines.target.now) (rows_text system c.args.allowed.now form asked (schedule system horizon)) last.seen.now.text.items) format_is
    (subst (λ show. AppendsBefore (held c.args.target.now) (held last.lines.target.now) (rows_text system c.args.allowed.now first.format show (schedule system horizon)) last.seen.now.text.items) show_is
    (moved (λ w flags sys own. AppendsBefore (held w) (held last.lines.target.now) (rows_text sys flags first.format first.show (schedule own horizon)) last.seen.now.text.items)
    _ _ _ _ _ _ _ _ begun allowed_is system_is shared_is ended.2)) in
    let working : failed last.lines.target.now ≡ false = ended.0.working ∙ ap failed begun ∙ c.requires.working in
    let watched : last.seen.now.watch ≡ watches_of system (past_of [] (schedule system horizon)) =
    moved (λ w flags sys own. last.seen.now.watch ≡ watches_of sys (past_of [] (schedule own horizon))) _ _ _ _ _ _ _ _ begun allowed_is system_is shared_is ended.0.watch_is in
    let counted : last.seen.now.counts ≡ counts_in system c.args.allowed.now [] (schedule system horizon) no_counts =
    moved (λ w flags sys own. last.seen.now.counts ≡ counts_in sys flags [] (schedule own horizon) no_counts) _ _ _ _ _ _ _ _ begun allowed_is system_is shared_is ended.1 in
    let tabled : last.seen.now.table ≡ kept_table asked system horizon (past_of [] (schedule system horizon)) =
    subst (λ a. last.seen.now.table ≡ kept_table a system horizon (past_of [] (schedule system horizon))) show_is
    (moved (λ w flags sys own. last.seen.now.table ≡ kept_table first.show sys horizon (past_of [] (schedule own horizon))) _ _ _ _ _ _ _ _ begun allowed_is system_is shared_is ended.0.table_is) in
    record {
      text = at-last (λ w text. AppendsBefore (held c.args.target.now) (held w) (rows_text system c.args.allowed.now how asked (schedule system horizon)) text)
          last.lines.target.now _ last.seen.now.text.items _ (search rules) (search rules) told;
      watch = at-target (λ w. w ≡ watches_of system (past_of [] (schedule system horizon))) last.seen.now.watch _ (search rules) watched;
      counts = at-target (λ n. n ≡ counts_in system c.args.allowed.now [] (schedule system horizon) no_counts) last.seen.now.counts _ (search rules) counted;
      table = at-target (λ t. t ≡ kept_table asked system horizon (past_of [] (schedule system horizon))) last.seen.now.table _ (search rules) tabled;
    }

pub returns-in-Ok-clause-working : goal.returns-in-Ok-clause-working
returns-in-Ok-clause-working g c =
    let held = g.T.Target.contents in
    let failed = g.T.Target.has_failed in
    let first = c.new-finder.result in
    let last = c.schedule_to-result.new.sink in
    let options = c.args.options.now in
    let horizon = options.horizon in
    let asked = options.show in
    let how = options.format in
    let system = arc_value c.args.system.now in
    let shared_is : arc_value c.in_ok-shared.shared ≡ arc_value c.args.system.now = search rules in
    let ordered : InOrder [] (schedule (arc_value c.args.system.now) horizon) = search rules in
    let order = subst (λ s. InOrder [] (schedule s horizon)) (sym shared_is) ordered in
    let headed_here : c.new-finder.result.seen.now.text.items ≡ head_text c.args.options.now.format c.args.options.now.show (arc_value c.args.system.now) = search rules in
    let none : c.new-finder.result.seen.now.counts ≡ no_counts = search rules in
    let system_is : c.new-finder.result.system.now ≡ arc_value c.args.system.now = search rules in
    let allowed_is : c.new-finder.result.allowed.now ≡ c.args.allowed.now = search rules in
    let show_is : c.new-finder.result.show ≡ c.args.options.now.show = search rules in
    let format_is : c.new-finder.result.format ≡ c.args.options.now.format = search rules in
    let headed = subst (λ s. c.new-finder.result.seen.now.text.items ≡ head_text c.new-finder.result.format c.new-finder.result.show s) (sym system_is)
    (headed_here ∙ sym (ap₂ (λ form asked. head_text form asked (arc_value c.args.system.now)) format_is show_is)) in
    let watch : c.new-finder.result.seen.now.watch ≡ watches_of (arc_value c.args.system.now) [] = search rules in
    let watch_is = subst (λ s. c.new-finder.result.seen.now.watch ≡ watches_of s []) (sym system_is) watch in
    let begun : c.new-finder.result.lines.target.now ≡ c.args.target.now = search rules in
    let table : c.new-finder.result.seen.now.table ≡ kept_table c.args.options.now.show (arc_value c.args.system.now) c.args.options.now.horizon [] = search rules in
    let table_is = subst (λ s. c.new-finder.result.seen.now.table ≡ kept_table c.new-finder.result.show s horizon []) (sym system_is)
    (subst (λ a. c.new-finder.result.seen.now.table ≡ kept_table a (arc_value c.args.system.now) horizon []) (sym show_is) table) in
    let ended = rows-given held failed first horizon last (schedule (arc_value c.in_ok-shared.shared) horizon) order headed watch_is none table_is c.in-Ok.ensures.given in
    let target_is : c.schedule_to-result.new.sink.lines.target.ghost_name ≡ c.new-finder.result.lines.target.ghost_name = ended.0.target_is in
    let seen_is : c.schedule_to-result.new.sink.seen.ghost_name ≡ c.new-finder.result.seen.ghost_name = ended.0.seen_is in
    let told : AppendsBefore (held c.args.target.now) (held last.lines.target.now) (rows_text system c.args.allowed.now how asked (schedule system horizon)) last.seen.now.text.items =
    subst (λ form. AppendsBefore (held c.args.target.now) (held last.lines.target.now) (rows_text system c.args.allowed.now form asked (schedule system horizon)) last.seen.now.text.items) format_is
    (subst (λ show. AppendsBefore (held c.args.target.now) (held last.lines.target.now) (rows_text system c.args.allowed.now first.format show (schedule system horizon)) last.seen.now.text.items) show_is
    (moved (λ w flags sys own. AppendsBefore (held w) (held last.lines.target.now) (rows_text sys flags first.format first.show (schedule own horizon)) last.seen.now.text.items)
    _ _ _ _ _ _ _ _ begun allowed_is system_is shared_is ended.2)) in
    let working : failed last.lines.target.now ≡ false = ended.0.working ∙ ap failed begun ∙ c.requires.working in
    at-target (λ w. failed w ≡ false) last.lines.target.now _ (search rules) working

pub returns-in-Err-NoMemory-clause-fault : goal.returns-in-Err-NoMemory-clause-fault
returns-in-Err-NoMemory-clause-fault g c =
    let held = g.T.Target.contents in
    let failed = g.T.Target.has_failed in
    let first = c.new-finder.result in
    let last = c.schedule_to-result.new.sink in
    let horizon = c.args.options.now.horizon in
    let asked = c.args.options.now.show in
    let how = c.args.options.now.format in
    let system = arc_value c.args.system.now in
    let shared_is : arc_value c.in_ok-shared.shared ≡ arc_value c.args.system.now = search rules in
    let ordered : InOrder [] (schedule (arc_value c.args.system.now) horizon) = search rules in
    let order = subst (λ s. InOrder [] (schedule s horizon)) (sym shared_is) ordered in
    let headed_here : c.new-finder.result.seen.now.text.items ≡ head_text c.args.options.now.format c.args.options.now.show (arc_value c.args.system.now) = search rules in
    let none : c.new-finder.result.seen.now.counts ≡ no_counts = search rules in
    let system_is : c.new-finder.result.system.now ≡ arc_value c.args.system.now = search rules in
    let allowed_is : c.new-finder.result.allowed.now ≡ c.args.allowed.now = search rules in
    let show_is : c.new-finder.result.show ≡ c.args.options.now.show = search rules in
    let format_is : c.new-finder.result.format ≡ c.args.options.now.format = search rules in
    let headed = subst (λ s. c.new-finder.result.seen.now.text.items ≡ head_text c.new-finder.result.format c.new-finder.result.show s) (sym system_is)
    (headed_here ∙ sym (ap₂ (λ form asked. head_text form asked (arc_value c.args.system.now)) format_is show_is)) in
    let watch : c.new-finder.result.seen.now.watch ≡ watches_of (arc_value c.args.system.now) [] = search rules in
    let watch_is = subst (λ s. c.new-finder.result.seen.now.watch ≡ watches_of s []) (sym system_is) watch in
    let begun : c.new-finder.result.lines.target.now ≡ c.args.target.now = search rules in
    let table : c.new-finder.result.seen.now.table ≡ kept_table c.args.options.now.show (arc_value c.args.system.now) c.args.options.now.horizon [] = search rules in
    let table_is = subst (λ s. c.new-finder.result.seen.now.table ≡ kept_table c.new-finder.result.show s horizon []) (sym system_is)
    (subst (λ a. c.new-finder.result.seen.now.table ≡ kept_table a (arc_value c.args.system.now) horizon []) (sym show_is) table) in
    let is : c.schedule_to-result.result ≡ Err fault.NoMemory = search rules in
    let ended = rows-some held failed first horizon last (schedule (arc_value c.in_ok-shared.shared) horizon) order headed watch_is none table_is
    (err-is _ c.schedule_to-result.result fault.NoMemory is c.schedule_to-result.ensures.fault) in
    let target_is : c.schedule_to-result.new.sink.lines.target.ghost_name ≡ c.new-finder.result.lines.target.ghost_name = ended.0.1.target_is in
    at-target (λ w. (failed w ≡ false) × AppendsPrefix (held c.args.target.now) (held w) (rows_text system c.args.allowed.now how asked (schedule system horizon)))
    last.lines.target.now _ (search rules) (
      ended.0.1.working ∙ ap failed begun ∙ c.requires.working,
      subst (λ form. AppendsPrefix (held c.args.target.now) (held last.lines.target.now) (rows_text system c.args.allowed.now form asked (schedule system horizon))) format_is
          (subst (λ show. AppendsPrefix (held c.args.target.now) (held last.lines.target.now) (rows_text system c.args.allowed.now first.format show (schedule system horizon))) show_is
          (moved (λ w flags sys own. AppendsPrefix (held w) (held last.lines.target.now) (rows_text sys flags first.format first.show (schedule own horizon)))
          _ _ _ _ _ _ _ _ begun allowed_is system_is shared_is ended.1)),
    )

pub returns-in-Err-Sink-clause-fault : goal.returns-in-Err-Sink-clause-fault
returns-in-Err-Sink-clause-fault g c =
    let held = g.T.Target.contents in
    let failed = g.T.Target.has_failed in
    let first = c.new-finder.result in
    let last = c.schedule_to-result.new.sink in
    let horizon = c.args.options.now.horizon in
    let asked = c.args.options.now.show in
    let how = c.args.options.now.format in
    let system = arc_value c.args.system.now in
    let shared_is : arc_value c.in_ok-shared.shared ≡ arc_value c.args.system.now = search rules in
    let ordered : InOrder [] (schedule (arc_value c.args.system.now) horizon) = search rules in
    let order = subst (λ s. InOrder [] (schedule s horizon)) (sym shared_is) ordered in
    let headed_here : c.new-finder.result.seen.now.text.items ≡ head_text c.args.options.now.format c.args.options.now.show (arc_value c.args.system.now) = search rules in
    let none : c.new-finder.result.seen.now.counts ≡ no_counts = search rules in
    let system_is : c.new-finder.result.system.now ≡ arc_value c.args.system.now = search rules in
    let allowed_is : c.new-finder.result.allowed.now ≡ c.args.allowed.now = search rules in
    let show_is : c.new-finder.result.show ≡ c.args.options.now.show = search rules in
    let format_is : c.new-finder.result.format ≡ c.args.options.now.format = search rules in
    let headed = subst (λ s. c.new-finder.result.seen.now.text.items ≡ head_text c.new-finder.result.format c.new-finder.result.show s) (sym system_is)
    (headed_here ∙ sym (ap₂ (λ form asked. head_text form asked (arc_value c.args.system.now)) format_is show_is)) in
    let watch : c.new-finder.result.seen.now.watch ≡ watches_of (arc_value c.args.system.now) [] = search rules in
    let watch_is = subst (λ s. c.new-finder.result.seen.now.watch ≡ watches_of s []) (sym system_is) watch in
    let begun : c.new-finder.result.lines.target.now ≡ c.args.target.now = search rules in
    let table : c.new-finder.result.seen.now.table ≡ kept_table c.args.options.now.show (arc_value c.args.system.now) c.args.options.now.horizon [] = search rules in
    let table_is = subst (λ s. c.new-finder.result.seen.now.table ≡ kept_table c.new-finder.result.show s horizon []) (sym system_is)
    (subst (λ a. c.new-finder.result.seen.now.table ≡ kept_table a (arc_value c.args.system.now) horizon []) (sym show_is) table) in
    let is : c.schedule_to-result.result ≡ Err fault.Sink = search rules in
    let ended = rows-until held failed first horizon last (schedule (arc_value c.in_ok-shared.shared) horizon) order headed watch_is none table_is
    (err-is _ c.schedule_to-result.result fault.Sink is c.schedule_to-result.ensures.fault) in
    let target_is : c.schedule_to-result.new.sink.lines.target.ghost_name ≡ c.new-finder.result.lines.target.ghost_name = ended.0.target_is in
    let told : AppendsPrefix (held c.args.target.now) (held last.lines.target.now) (rows_text system c.args.allowed.now how asked (schedule system horizon)) =
    subst (λ form. AppendsPrefix (held c.args.target.now) (held last.lines.target.now) (rows_text system c.args.allowed.now form asked (schedule system horizon))) format_is
    (subst (λ show. AppendsPrefix (held c.args.target.now) (held last.lines.target.now) (rows_text system c.args.allowed.now first.format show (schedule system horizon))) show_is
    (moved (λ w flags sys own. AppendsPrefix (held w) (held last.lines.target.now) (rows_text sys flags first.format first.show (schedule own horizon)))
    _ _ _ _ _ _ _ _ begun allowed_is system_is shared_is ended.1)) in
    let was = ended.0.failed_is ∙ ap (failed_after last.lines.is_out_of_memory) (ap failed begun ∙ c.requires.working) in
    at-target (λ w. IsWriteFault (held c.args.target.now) (held w) (failed w) (rows_text system c.args.allowed.now how asked (schedule system horizon)) c.refusal.result)
    last.lines.target.now _ (search rules) (refused-fault _ _ _ _ c.refusal.result last.lines.is_out_of_memory c.refusal.ensures was told)
