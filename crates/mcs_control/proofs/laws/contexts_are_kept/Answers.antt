use Rattle.mcs_control.proofs.Contexts.{contexts-kept}
use Rattle.mcs_control.proofs.laws.contexts_are_kept.Goals as goal

pub returns : goal.returns
returns c = contexts-kept
