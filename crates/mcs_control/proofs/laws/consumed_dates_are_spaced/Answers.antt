use Rattle.mcs_control.proofs.Contexts.{consumed-are-spaced}
use Rattle.mcs_control.proofs.laws.consumed_dates_are_spaced.Goals as goal

pub returns : goal.returns
returns c = consumed-are-spaced
