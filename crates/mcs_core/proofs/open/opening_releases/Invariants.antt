use Rattle.std.proofs.Common.{◌≡◌, length, take}
use Rattle.mcs_core.specs.Core.{opening_releases}
use Rattle.mcs_core.proofs.open.opening_releases.Given as goal

abbrev pub invariant-loop-i : goal.invariant-loop-i
invariant-loop-i l = record {
  queue : l.releases.queue ≡ opening_releases l.system l.core 0 (take l.i l.system.threads);
  room : l.releases.room ≡ length l.system.threads;
}
