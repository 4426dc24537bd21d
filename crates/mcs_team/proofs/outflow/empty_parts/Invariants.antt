use Rattle.std.proofs.Common.{◌≡◌, [], length, replicate}
use Rattle.mcs_merge.specs.Parts.{HoldEach}
use Rattle.mcs_team.proofs.outflow.empty_parts.Given as goal

abbrev pub invariant-loop : goal.invariant-loop
invariant-loop g l =
    (length l.parts.items ≡ l.counter)
    × ((out : _) → g.W.Relay.fits l.relay out → HoldEach g.W.Part.Part.holds out l.parts.items (replicate l.counter []))
