use Rattle.std.proofs.Common.{◌≡◌, drop, fold}
use Rattle.mcs_hints.specs.Carried.{with_script}
use Rattle.mcs_hints.proofs.chains.carry_all_on.Given as goal

abbrev pub invariant-loop-thread : goal.invariant-loop-thread
invariant-loop-thread l = fold with_script l.words (drop l.thread-index l.threads) ≡ fold with_script l.initial.words l.threads
