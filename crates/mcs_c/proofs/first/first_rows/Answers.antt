use Rattle.std.proofs.Common.{rules, ◌≡◌, IsSome, subst}
use Rattle.std.specs.Arc.{arc_value}
use Rattle.mcs_core.specs.Clock.{schedule}
use Rattle.mcs_ticks.specs.Given.{Given, GivenUntil}
use Rattle.mcs_c.proofs.Keeping.{Keeps, first-all, first-cut}
use Rattle.mcs_c.proofs.first.first_rows.Goals as goal

pub returns-in-Ok : goal.returns-in-Ok
returns-in-Ok c =
    let first = c.new-first.result in
    let last = c.schedule_alone.new.sink in
    let system_is : arc_value c.in_ok-system.system ≡ c.args.system = search rules in
    first-all first last (schedule c.args.system c.args.horizon) c.args.most c.new-first.ensures.rows c.new-first.ensures.most c.new-first.ensures.next
    (subst (λ s. Given Keeps first (schedule s c.args.horizon) last) system_is c.in-Ok.ensures.given)

pub returns-in-Err-Sink : goal.returns-in-Err-Sink
returns-in-Err-Sink c =
    let first = c.new-first.result in
    let last = c.schedule_alone.new.sink in
    let system_is : arc_value c.in_ok-system.system ≡ c.args.system = search rules in
    let some : IsSome last.next = search rules in
    let given = rw c.in-Err-Sink.field-0-is at c.in-Err-Sink.ensures.fault in
    first-cut first last (schedule c.args.system c.args.horizon) c.args.most c.new-first.ensures.rows c.new-first.ensures.most some
    (subst (λ s. GivenUntil Keeps first (schedule s c.args.horizon) last) system_is given)
