-- The steps of a search from moment to moment.
use Rattle.std.specs.Prelude.{◌≡◌, ℕ, ◌<◌, ◌≤◌, ◌⊎◌, false, List, [], ◌++◌, None}
use Rattle.mcs_ticks.specs.declared.row.Row.{Row}
use Rattle.mcs_system.specs.System.{System}
use Rattle.mcs_core.specs.Clock.{core_at, world}
use Rattle.mcs_core.specs.Quiet.{IsNextBusy}
use Rattle.mcs_ever_search.specs.Together.{rows_at, rows_before}
use Rattle.mcs_ever_search.specs.Compared.{Compared, at_moment}

-- from this moment on no core does more than count a tick, and no signal is under way
pub record IsAtRest (system : System) (clock : ℕ) : Type 0 where
  pub mails : (world system clock).mails ≡ []
  pub cores : (core : ℕ) → core < system.cores → IsNextBusy system core clock [] (core_at system (world system clock) core) None

-- the cores are at the same moment or a later one, and the schedule has no row meanwhile
pub record StandsOn (before after : Compared) : Type 0 where
  pub same : after ≡ at_moment before after.clock
  pub later : before.clock ≤ after.clock
  pub rows : rows_before before.system after.clock ≡ rows_before before.system before.clock

-- the cores have taken their turns of the moment and are at a later one; the schedule has no row
-- meanwhile but those of the turns. The kept moment is the earlier one, or that of the turns
pub record GoesOn (before after : Compared) (old new : List Row) : Type 0 where
  pub system : after.system ≡ before.system
  pub horizon : after.horizon ≡ before.horizon
  pub going : after.failed ≡ false
  pub later : before.clock < after.clock
  pub kept : (after.kept ≡ before.kept) ⊎ (after.kept ≡ before.clock)
  pub rows : new ≡ old ++ rows_at before.system before.clock
  pub schedule : rows_before before.system after.clock ≡ rows_before before.system before.clock ++ rows_at before.system before.clock
