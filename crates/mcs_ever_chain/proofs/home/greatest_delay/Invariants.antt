use Rattle.std.proofs.Common.{◌≤◌, take}
use Rattle.mcs_ever_chain.proofs.Delays.{AreAtMost}
use Rattle.mcs_ever_chain.proofs.home.greatest_delay.Given as goal

abbrev pub invariant-loop-link : goal.invariant-loop-link
invariant-loop-link l = record { default : l.parts.delay ≤ l.delay; links : AreAtMost l.delay (take l.link-index l.parts.links) }
