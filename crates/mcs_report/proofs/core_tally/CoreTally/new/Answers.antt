use Rattle.std.proofs.Common.{◌∙◌, ap, map}
use Rattle.std.specs.Arc.{arc_value}
use Rattle.mcs_report.specs.Places.{threads_on}
use Rattle.mcs_report.specs.CoreTally.{opened_on}
use Rattle.mcs_report.specs.stored.CoreTally.{reopened}
use Rattle.mcs_report.proofs.OnCore.{opened-reopened}
use Rattle.mcs_report.proofs.core_tally.CoreTally.new.Goals as goal

pub invariant_of-result : goal.invariant_of-result
invariant_of-result c =
    let system = arc_value c.args.places in
    ap (map reopened) (c.in_ok-accounts.ensures ∙ ap (λ s. opened_on s c.args.core) (c.system.ensures ∙ c.deref.ensures))
    ∙ opened-reopened system (threads_on system c.args.core)
