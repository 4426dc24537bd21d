-- The moments that are read so far are those of the first rows, or 0 for a missing row.
use Rattle.std.proofs.Common.{◌≡◌, ℕ, ◌<◌, slice_index, slice_get, IfNone, IfSome}
use Rattle.mcs_merge.proofs.queue.moments_of.Given as goal

abbrev pub invariant-loop-place : goal.invariant-loop-place
invariant-loop-place l =
    ((k : ℕ) → k < l.place → IfSome (slice_get l.rows.items k) (λ row. slice_index l.moments k ≡ row.moment))
    × ((k : ℕ) → k < l.place → IfNone (slice_get l.rows.items k) (slice_index l.moments k ≡ 0))
