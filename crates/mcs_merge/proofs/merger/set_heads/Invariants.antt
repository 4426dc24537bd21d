use Rattle.std.proofs.Common.{◌≡◌, ℕ, ◌<◌, ◌≤◌, length}
use Rattle.mcs_merge.specs.Parts.{first_of, parts_of}
use Rattle.mcs_merge.specs.stored.Heads.{far, head_at, head_of_next}
use Rattle.mcs_merge.proofs.merger.set_heads.Given as goal

abbrev pub invariant-loop-core : goal.invariant-loop-core
invariant-loop-core g l = record {
  few : length l.cores ≤ 64;
  enough : length l.cores ≤ length l.heads;
  done : (d : ℕ) → d < l.core → head_at d l.heads ≡ head_of_next d (first_of g.P.Part.first (parts_of d l.cores));
  others : (d : ℕ) → length l.cores ≤ d → d < length l.heads → head_at d l.heads ≡ far;
}
