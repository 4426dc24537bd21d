-- The rows of each core, taken from a desk one core after another.
use Rattle.std.proofs.Common.{◌≡◌, ℕ, ◌<◌, List, length}
use Rattle.std.specs.Prelude.{slice_index}
use Rattle.mcs_window.specs.Desk.{Table, clock_of}
use Rattle.mcs_team.specs.Flow.{AreTakenTo}

-- the rows of the cores below this number were taken
pub record AreGathered (start : Table) (many : ℕ) (table : Table) (pasts : List ℕ) : Type 0 where
  pub rest_is : table ≡ record start { taken = table.taken }
  pub long : length table.taken ≡ length start.taken
  pub taken : AreTakenTo pasts table
  pub done : (core : ℕ) → core < many → slice_index pasts core ≡ clock_of start core
