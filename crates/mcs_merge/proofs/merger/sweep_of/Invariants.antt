use Rattle.std.proofs.Common.{◌≡◌, ◌<◌}
use Rattle.mcs_merge.specs.stored.Sweep.{IsSwept}
use Rattle.mcs_merge.proofs.merger.sweep_of.Given as goal

abbrev pub invariant-loop-d : goal.invariant-loop-d
invariant-loop-d g l = record {
  same : (l.sweep.start ≡ l.initial.sweep.start) × (l.sweep.at ≡ 0) × (l.sweep.end ≡ l.initial.sweep.end);
  swept : IsSwept g.P.Part.first l.cores (λ d. d < l.d) l.sweep;
}
