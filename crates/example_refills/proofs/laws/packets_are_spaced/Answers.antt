use Rattle.example_refills.proofs.Packets.{packets-spaced}
use Rattle.example_refills.proofs.laws.packets_are_spaced.Goals as goal

pub returns : goal.returns
returns c = packets-spaced
