use Rattle.std.proofs.Common.{◌∙◌, ap, map}
use Rattle.std.specs.Arc.{arc_value}
use Rattle.std.proofs.lemmas.List.{with_items_is}
use Rattle.mcs_report.specs.Places.{threads_on}
use Rattle.mcs_report.specs.stored.CoreTally.{reopened}
use Rattle.mcs_report.proofs.OnCore.{opened-reopened}
use Rattle.mcs_report.proofs.core_tally.CoreTallyCollector.clear.Goals as goal

pub invariant_of-self : goal.invariant_of-self
invariant_of-self c =
    let system = arc_value c.self.inside.own.places in
    ap (map reopened)
    (with_items_is c.self.inside.accounts c.reopen.new.accounts (c.reopen.auto.accounts ∙ c.as_mut_slice.ensures.len)
    ∙ c.reopen.ensures
    ∙ ap (map reopened) c.as_mut_slice.ensures.value
    ∙ c.self.invariant)
    ∙ opened-reopened system (threads_on system c.self.inside.own.core)
