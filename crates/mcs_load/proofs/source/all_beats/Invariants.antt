use Rattle.std.proofs.Common.{◌≡◌, take}
use Rattle.std.specs.List.{flat_map}
use Rattle.mcs_load.proofs.source.all_beats.Given as goal

abbrev pub invariant-loop-source : goal.invariant-loop-source
invariant-loop-source l = l.beats.items ≡ flat_map (λ s. s.dates.beats) (take l.source-index l.sources)
