use Rattle.std.proofs.Common.{◌≡◌, map}
use Rattle.mcs_load.specs.Dates.{part_of_source}
use Rattle.mcs_load.proofs.source.source_parts.Given as goal

abbrev pub invariant-loop-source : goal.invariant-loop-source
invariant-loop-source l = l.parts.items ≡ map part_of_source l.yielded
