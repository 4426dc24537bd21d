use Rattle.std.proofs.Common.{ap}
use Rattle.circular_buffer.specs.Buffer.{buffer}
use Rattle.mcs_refills.proofs.Ends.{set-last}
use Rattle.mcs_refills.proofs.line.replace_last.Goals as goal

pub returns : goal.returns
returns c = rw c.len-place.ensures.len (ap (λ xs. buffer xs c.args.ring.now.capacity) (set-last c.args.ring.now.items c.args.refill c.requires.some))
