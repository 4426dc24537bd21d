use Rattle.std.proofs.Common.{◌≡◌, ℕ, ◌<◌, false, length, get_or}
use Rattle.mcs_ever_told.specs.Sets.{have_one_set}
use Rattle.mcs_ever_told.proofs.outlook.sets.own_of.Given as goal

abbrev pub invariant-loop-other : goal.invariant-loop-other
invariant-loop-other l =
    (length l.own ≡ 64) × ((k : ℕ) → k < l.other → get_or l.own k false ≡ have_one_set l.sets l.core k)
