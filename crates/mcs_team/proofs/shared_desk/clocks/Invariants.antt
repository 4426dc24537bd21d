use Rattle.std.proofs.Common.{◌≡◌, ℕ, ◌<◌, length}
use Rattle.std.specs.Prelude.{slice_index}
use Rattle.mcs_window.specs.Desk.{clock_of}
use Rattle.mcs_team.proofs.shared_desk.clocks.Given as goal

abbrev pub invariant-loop-core : goal.invariant-loop-core
invariant-loop-core l = (length l.front ≡ 64) × ((c : ℕ) → c < l.core → slice_index l.front c ≡ clock_of l.desk c)
