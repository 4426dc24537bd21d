use Rattle.std.proofs.Common.{◌≡◌, ℕ, ◌<◌}
use Rattle.std.specs.Prelude.{slice_index_or}
use Rattle.mcs_team.proofs.own_tally.are_in_place.Given as goal

abbrev pub invariant-loop-number : goal.invariant-loop-number
invariant-loop-number g l = (c : ℕ) (own : _) → c < l.number → (slice_index_or l.tallies c own).tally.core ≡ c
