use Rattle.mcs_ever_chain.proofs.Forever.{interrupts-are-added}
use Rattle.mcs_ever_chain.proofs.laws.interrupts_are_added.Goals as goal

pub returns : goal.returns
returns c = interrupts-are-added
