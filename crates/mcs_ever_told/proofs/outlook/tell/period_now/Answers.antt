use Rattle.std.proofs.Common.{◌≡◌, true, Option, refl, sym, subst, rules}
use Rattle.std.specs.Prelude.{IfSome}
use Rattle.mcs_system.specs.System.{System}
use Rattle.mcs_ever.specs.Recurs.{IsClosed}
use Rattle.mcs_ever.specs.Closed.{has}
use Rattle.mcs_ever_again.specs.declared.recurs.shifts.Shifts.{Shifts}
use Rattle.mcs_ever_search.specs.Compared.{RecursSince}
use Rattle.mcs_ever_told.specs.stored.Looks.{period_of}
use Rattle.mcs_ever_told.proofs.ForEver.{lines-hold}
use Rattle.mcs_ever_told.proofs.Settling.{all-settled}
use Rattle.mcs_ever_told.proofs.Since.{has-recurred, recurs-here}
use Rattle.mcs_ever_told.proofs.outlook.tell.period_now.Goals as goal

pub returns : goal.returns
returns c =
    let s = c.args.look.now.system.now in
    let run = c.args.look.now.search.now in
    let look = c.requires.look in
    let set = c.args.group.now.set in
    let C : System → Type 0 = λ x. IsClosed x (has set) in
    let found = c.in_ok-shifts.ensures.recurs (subst C (sym look.same) c.requires.closed.closed) in
    let F : Option Shifts → Type 0 = λ o. IfSome o (λ (shifts : Shifts). RecursSince run set shifts) in
    let since : RecursSince run set c.in-Some.shifts = subst F c.in-Some.is found in
    let finds : c.finds_again.result ≡ true = search rules in
    let recurred = has-recurred s run look set c.in-Some.shifts since
    (c.finds_again.ensures finds _ refl since.period (recurs-here s run look set c.in-Some.shifts since)) in
    let well = c.parts-parts.ensures.well_formed in
    let p = period_of run c.in-Some.shifts.by in
    let settled = all-settled s well c.args.look.now.allowed.now set c.args.group.now.own c.requires.closed.within recurred.shifts p recurred.by_is recurred.recurs
    c.no_deadline_is_missed.ensures c.no_signal_is_lost.ensures c.threads_go_on.ensures c.words_go_on.ensures in
    record {
      recurred = recurred;
      settled = settled;
      lines_hold =
          lines-hold s well c.args.look.now.allowed.now set c.args.group.now.own c.requires.closed.within recurred.shifts p recurred.by_is recurred.recurs
          c.turns_repeat.ensures c.findings_repeat.ensures c.greatest_is_forever.ensures c.never_spent.ensures c.no_round_ends_again.ensures
          c.threads_go_on.ensures c.words_go_on.ensures (c.rows_tell_turns.ensures s well) settled;
    }
