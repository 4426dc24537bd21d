use Rattle.std.proofs.Common.{◌≡◌, ◌≤◌, length, map, vec_capacity}
use Rattle.std.specs.List.{range_with_len}
use Rattle.mcs_report.specs.stored.Places.{home_in}
use Rattle.mcs_report.proofs.Homes.{AreCounted}
use Rattle.mcs_report.proofs.places.homes_of.Given as goal

abbrev pub invariant-loop-thread : goal.invariant-loop-thread
invariant-loop-thread l = record {
  homes : l.homes.items ≡ map (home_in l.parts) (range_with_len 0 l.thread-index);
  room : length l.threads ≤ vec_capacity l.homes;
  counted : AreCounted l.parts l.many l.thread-index;
}
