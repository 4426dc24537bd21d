use Rattle.std.proofs.Common.{◌+◌, ◌≡◌, length}
use Rattle.std.specs.Fmt.{decimal}
use Rattle.mcs_text.proofs.bytes.digits.Given as goal

abbrev pub invariant-eights : goal.invariant-eights
invariant-eights l = l.count + length (decimal l.left) ≡ length (decimal l.number)

abbrev pub decreases-eights : goal.decreases-eights
decreases-eights l = l.left
