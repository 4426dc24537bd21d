use Rattle.std.proofs.Common.{◌≡◌, ◌≤◌, ◌-◌, length, take}
use Rattle.std.specs.Io.KnownBytes.{Appends}
use Rattle.mcs_cli.proofs.streams.write_bytes.Given as goal

abbrev pub invariant-loop-at : goal.invariant-loop-at
invariant-loop-at g l = record {
  in_range : l.at ≤ length l.bytes;
  written : Appends (g.T.Target.contents l.initial.target) (g.T.Target.contents l.target) (take l.at l.bytes);
  working : g.T.Target.has_failed l.target ≡ g.T.Target.has_failed l.initial.target;
}

abbrev pub decreases-loop-at : goal.decreases-loop-at
decreases-loop-at g l = length l.bytes - l.at
