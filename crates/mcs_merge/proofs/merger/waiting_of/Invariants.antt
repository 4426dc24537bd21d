use Rattle.std.proofs.Common.{◌≡◌, ◌∷◌, []}
use Rattle.std.specs.Prelude.{map}
use Rattle.mcs_merge.proofs.merger.waiting_of.Given as goal

abbrev pub invariant-loop-part : goal.invariant-loop-part
invariant-loop-part g l = l.cores.items ≡ map (λ part. part ∷ []) l.yielded
