use Rattle.mcs_laws.proofs.Shown.{contexts-shown}
use Rattle.mcs_laws.proofs.laws.contexts_are_shown.Goals as goal

pub returns : goal.returns
returns c = contexts-shown
