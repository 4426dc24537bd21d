use Rattle.std.proofs.Common.{◌≡◌, ◌++◌, drop, map}
use Rattle.mcs_spin.specs.Spun.{spun_part}
use Rattle.mcs_spin.proofs.spun.spun_threads.Given as goal

abbrev pub invariant-loop-part : goal.invariant-loop-part
invariant-loop-part l = l.copies.items ++ map spun_part (drop l.part-index l.threads) ≡ map spun_part l.threads
