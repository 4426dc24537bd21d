use Rattle.std.proofs.Common.{◌≡◌, ℕ, ◌<◌, ◌≤◌, length}
use Rattle.mcs_merge.specs.Parts.{parts_of}
use Rattle.mcs_merge.specs.stored.Parts.{left_of_all, ArePouring, IsInLine}
use Rattle.mcs_merge.specs.stored.Sweep.{IsSwept}
use Rattle.mcs_merge.proofs.merger.pour_sweep.Given as goal

abbrev pub invariant-cores : goal.invariant-cores
invariant-cores g l = record {
  long : length l.cores ≡ length l.initial.cores;
  in_line : (core : ℕ) → core < length l.cores → IsInLine g.P.Part.first (parts_of core l.cores);
  end : l.sweep.end ≡ l.initial.sweep.end;
  swept : IsSwept g.P.Part.first l.cores (λ d. d < length l.cores) l.sweep;
  no_more : left_of_all g.P.Part.left l.cores ≤ left_of_all g.P.Part.left l.initial.cores;
  pouring : (until : ℕ) → l.initial.sweep.end ≤ until →
      ArePouring g.P.Out.Sink.takes g.P.Part.holds until l.initial.out l.out l.initial.cores l.cores;
}

abbrev pub decreases-cores : goal.decreases-cores
decreases-cores g l = left_of_all g.P.Part.left l.cores
