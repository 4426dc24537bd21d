use Rattle.std.proofs.Common.{◌≡◌, Some, sym, ap, ◌∙◌}
use Rattle.mcs_verdict.specs.Calls.{waited_on}
use Rattle.mcs_verdict.proofs.Dues.{seen_wait, unseen_wait, seen_other}
use Rattle.mcs_verdict.proofs.due.see_item.Goals as goal

pub returns-then-note-dues : goal.returns-then-note-dues
returns-then-note-dues c =
    let on : waited_on (Some c.args.item) ≡ Some c.note.inside.0 = sym c.waited_on.ensures ∙ c.in-Some.is ∙ ap Some (sym c.note.view_is) in
    seen_wait c.note.inside.0 c.args.deadline c.args.first c.args.item c.args.dues.now c.with_wait.result _ on c.if-note-dues.true c.with_wait.ensures

pub returns-else-note-dues : goal.returns-else-note-dues
returns-else-note-dues c =
    let on : waited_on (Some c.args.item) ≡ Some c.note.inside.0 = sym c.waited_on.ensures ∙ c.in-Some.is ∙ ap Some (sym c.note.view_is) in
    unseen_wait c.note.inside.0 c.args.deadline c.args.first c.args.item c.args.dues.now on c.if-note-dues.false

pub returns-in_default : goal.returns-in_default
returns-in_default c = seen_other c.args.deadline c.args.first c.args.item c.args.dues.now (sym c.waited_on.ensures ∙ c.in_default.is)
