use Rattle.mcs_window.proofs.Steps.{settled-safe}
use Rattle.mcs_window.proofs.laws.settled_loans_are_safe.Goals as goal

pub returns : goal.returns
returns c = settled-safe
