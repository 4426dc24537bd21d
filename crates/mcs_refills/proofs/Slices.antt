-- The sum of the charges of a slice.
use Rattle.std.proofs.Common.{◌≡◌, ℕ, ◌+◌, ◌-◌, ◌*◌, List, [], ◌∷◌, arith}
use Rattle.std.specs.Prelude.{sum}
use Rattle.std.proofs.Math.Nat.{suc-mul}
use Rattle.std.proofs.lemmas.Bool.Decides.{nat_tests}
use Rattle.std.proofs.lemmas.List.Sums.{sum_by-cons}
use Rattle.mcs_refills.specs.Slice.{slice_charged, AreWithin, left_after_all, times_used_up, SlicesAreSpent}

-- from any slice on
pub spent : (budget : ℕ) (ks : List ℕ) (left : ℕ) → AreWithin ks budget left → sum ks + left_after_all ks budget left ≡ left + times_used_up ks budget left * budget
spent budget [] left h = omega arith
spent budget (k ∷ ks) left h =
    rw (sum_by-cons (λ x. x) k ks) (grind (arith, nat_tests, suc-mul (times_used_up ks budget (slice_charged k budget left)) budget, spent budget ks (slice_charged k budget left) h.2))

pub slices-spent : SlicesAreSpent
slices-spent budget ks h = spent budget ks budget h
