use Rattle.std.proofs.Common.{◌≡◌, ◌++◌, length, drop}
use Rattle.mcs_load.specs.Dates.{beats_from}
use Rattle.mcs_load.proofs.source.beats.Given as goal

abbrev pub invariant-loop-k : goal.invariant-loop-k
invariant-loop-k l =
    l.beats.items ++ beats_from l.pace (length l.offsets) l.k (drop l.k l.offsets) ≡ beats_from l.pace (length l.offsets) 0 l.offsets
