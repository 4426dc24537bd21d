use Rattle.std.proofs.Common.{◌∙◌, ap}
use Rattle.std.proofs.lemmas.List.{with_items_is}
use Rattle.mcs_ever_found.specs.stored.Flags.{unmarked, nothing_done}
use Rattle.mcs_ever_found.proofs.Flags.{same_doings, doings-anew}
use Rattle.mcs_ever_found.proofs.recurs.doings.Doings.clear.Goals as goal

pub returns-clause-forgotten : goal.returns-clause-forgotten
returns-clause-forgotten c =
    let self = c.self.inside in
    same_doings _ _ _ _
    (with_items_is self.ended c.unmark.new.flags (c.unmark.auto.flags ∙ c.as_mut_slice.ensures.len) ∙ c.unmark.ensures ∙ ap unmarked c.as_mut_slice.ensures.value)
    (with_items_is self.taken c.unmark-2.new.flags (c.unmark-2.auto.flags ∙ c.as_mut_slice-2.ensures.len) ∙ c.unmark-2.ensures ∙ ap unmarked c.as_mut_slice-2.ensures.value)
    ∙ ap nothing_done c.self.view_is

pub returns-clause-anew : goal.returns-clause-anew
returns-clause-anew c system rows is = returns-clause-forgotten c ∙ doings-anew system rows c.args.self.now is
