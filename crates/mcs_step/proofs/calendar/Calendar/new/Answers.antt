use Rattle.mcs_step.proofs.Groups.{grouped-same}
use Rattle.mcs_step.proofs.calendar.Calendar.new.Goals as goal

pub invariant_of-result : goal.invariant_of-result
invariant_of-result c = grouped-same c.args.moment
