use Rattle.mcs_ever_found.proofs.Never.{no-signal-is-lost}
use Rattle.mcs_ever_found.proofs.laws.no_signal_is_lost.Goals as goal

pub returns : goal.returns
returns c = no-signal-is-lost
