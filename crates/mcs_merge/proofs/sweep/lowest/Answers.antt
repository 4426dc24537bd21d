use Rattle.std.specs.Int.{w64}
use Rattle.std.proofs.Common.{arith}
use Rattle.std.proofs.lemmas.Nat.Bits.{bit_at-trailing_zeros}
use Rattle.mcs_merge.proofs.sweep.lowest.Goals as goal

pub returns : goal.returns
returns c = bit_at-trailing_zeros w64 c.args.set c.requires (search arith)
