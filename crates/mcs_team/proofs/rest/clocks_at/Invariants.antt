use Rattle.std.proofs.Common.{◌≡◌, ℕ, ◌<◌, length}
use Rattle.std.specs.Prelude.{slice_index}
use Rattle.mcs_window.specs.Desk.{clock_of}
use Rattle.mcs_team.proofs.rest.clocks_at.Given as goal

abbrev pub invariant-loop-number : goal.invariant-loop-number
invariant-loop-number l =
    (length l.front ≡ 64)
    × ((core : ℕ) → core < l.number → slice_index l.front core ≡ clock_of l.desk core)
    × ((core : ℕ) → core < l.number → slice_index l.moments core ≡ clock_of l.desk core)
