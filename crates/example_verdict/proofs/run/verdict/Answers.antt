use Rattle.std.proofs.Common.{◌≡◌, [], ◌++◌, ap, subst, sym, ◌∙◌}
use Rattle.std.specs.Arc.{arc_value}
use Rattle.mcs_core.specs.Clock.{schedule}
use Rattle.mcs_system.specs.System.{System}
use Rattle.mcs_system.specs.WellFormed.{IsWellFormed}
use Rattle.mcs_ticks.specs.Given.{Given}
use Rattle.mcs_verdict.specs.Findings.{all_at_end, found_in, past_of}
use Rattle.mcs_verdict.specs.Watch.{watch_of}
use Rattle.mcs_verdict.specs.laws.Given.{FindsRow}
use Rattle.example_verdict.proofs.run.verdict.Goals as goal

-- the finder was given the schedule, in order, and then the threads are looked at
pub returns-in-Ok-append : goal.returns-in-Ok-append
returns-in-Ok-append g c =
    let system = arc_value c.args.system in
    let horizon = c.args.horizon in
    let rows = schedule system horizon in
    let finder = c.in-Ok.finder in
    let after = c.schedule_to.new.sink in
    let well : IsWellFormed system = subst IsWellFormed c.deref.ensures c.parts-parts.ensures.well_formed in
    let order = c.schedules_are_in_order.ensures system well horizon in
    let watch : finder.watch ≡ watch_of system [] = c.in-Ok.ensures.watch ∙ ap (λ (s : System). watch_of s []) c.deref-2.ensures in
    let given : Given FindsRow finder rows after =
    subst (λ (s : System). Given FindsRow finder (schedule s horizon) after) c.in-Ok-try_clone.ensures c.in_ok-schedule_to.ensures.given
    in
    let found = c.given_rows_are_found.ensures system [] rows finder after given order.0 watch in
    let seen : after.watch ≡ watch_of c.deref-3.result.now (past_of [] rows) = found.0 ∙ ap (λ (s : System). watch_of s (past_of [] rows)) (sym c.deref-3.ensures) in
    let unended = c.in-Ok-find_unended.ensures (past_of [] rows) seen order.1 in
    c.in-Ok-append.ensures.items
    ∙ ap (λ xs. xs ++ c.in-Ok-find_unended.unended.items) (found.1 ∙ ap (λ xs. xs ++ found_in system [] rows) c.in-Ok.ensures.found)
    ∙ ap (λ xs. found_in system [] rows ++ xs) (unended ∙ ap (λ (s : System). all_at_end s (past_of [] rows) horizon) c.deref-3.ensures)
