use Rattle.std.proofs.Common.{◌≡◌, ◌+◌, ◌<◌, take, sum}
use Rattle.mcs_histogram.proofs.histogram.bucket_at.Given as goal

abbrev pub invariant-loop-number : goal.invariant-loop-number
invariant-loop-number l = (0 < l.left) × (sum (take l.number l.counts) + l.left ≡ l.place)
