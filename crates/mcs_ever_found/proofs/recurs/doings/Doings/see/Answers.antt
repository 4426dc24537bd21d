use Rattle.std.proofs.Common.{◌∙◌, ap}
use Rattle.std.proofs.lemmas.List.{with_items_is}
use Rattle.mcs_ever_found.specs.stored.Flags.{ended_by, taken_by, marked}
use Rattle.mcs_ever_found.proofs.Flags.{same_doings, doings-more}
use Rattle.mcs_ever_found.proofs.recurs.doings.Doings.see.Goals as goal

pub returns : goal.returns
returns c system rows is =
    let what = c.args.what.now in
    let self = c.self.inside in
    same_doings _ _ _ _
    (with_items_is self.ended c.mark.new.flags (c.mark.auto.flags ∙ c.as_mut_slice.ensures.len) ∙ c.mark.ensures
    ∙ ap (λ place. marked place c.as_mut_slice.result.now) c.ended_by.ensures ∙ ap (marked (ended_by what)) c.as_mut_slice.ensures.value)
    (with_items_is self.taken c.mark-2.new.flags (c.mark-2.auto.flags ∙ c.as_mut_slice-2.ensures.len) ∙ c.mark-2.ensures
    ∙ ap (λ place. marked place c.as_mut_slice-2.result.now) c.taken_by.ensures ∙ ap (marked (taken_by what)) c.as_mut_slice-2.ensures.value)
    ∙ doings-more system rows what self.ended.items self.taken.items (c.self.view_is ∙ is)
