-- Rounds of the cores: in each, every core looks at its rows.
use Rattle.std.specs.Prelude.{◌≡◌, ◌⊎◌, ℕ, ◌+◌, ◌<◌, ◌≤◌, Bool, false, List, [], ◌++◌, fold, length, slice_index, slice_index_or}
use Rattle.mcs_core.specs.Clock.{clock}
use Rattle.mcs_system.specs.System.{System}
use Rattle.mcs_stretch.specs.Stretch.{rows_between}
use Rattle.mcs_team.specs.Counts.{many_of}
use Rattle.mcs_window.specs.Desk.{Table, clock_of, turns_left, AllAreHere}
use Rattle.mcs_check.specs.declared.rounds.Cores.{Cores}
use Rattle.mcs_check.specs.declared.core_watch.CoreWatch.{CoreWatch}
use Rattle.mcs_check_lines.specs.declared.counts.Counts.{Counts}
use Rattle.mcs_check_lines.specs.Counts.{no_counts, together}
use Rattle.mcs_check.specs.stored.ByCore.{told_on_all}
use Rattle.mcs_check.specs.stored.Found.{told_in}
use Rattle.mcs_check.specs.stored.OwnRows.{HasSeen}

-- the sum of their counts
abbrev pub are_counted_together : List CoreWatch → Counts
are_counted_together watches = fold (λ counts own. together counts own.counts) no_counts watches

module _ (system : System) (allowed : List Bool) where
  -- the state of core c: its rows before `to`, with the findings from `from` on
  pub record IsWatched (from c to : ℕ) (own : CoreWatch) : Type 0 where
    pub many : own.rows ≡ many_of (rows_between system c 0 to)
    pub seen : HasSeen system allowed from (rows_between system c 0 to) own

  -- each core has that, up to its clock
  pub record AreWatched (from : ℕ) (clocks : List ℕ) (watches : List CoreWatch) : Type 0 where
    pub many_are : length watches ≡ system.cores
    pub each : (c : ℕ) (x : CoreWatch) → c < system.cores → IsWatched from c (slice_index clocks c) (slice_index_or watches c x)

  -- between two rounds: no core is lent or lost, and no clock is before `reached`; all earlier
  -- findings were passed on
  pub record IsReady (horizon : ℕ) (cores : Cores) : Type 0 where
    pub system_is : cores.desk.system ≡ system
    pub horizon_is : cores.desk.horizon ≡ horizon
    pub sound : cores.desk.lost ≡ false
    pub here : AllAreHere cores.desk
    pub in_time : cores.reached ≤ horizon + 1
    pub later : (c : ℕ) → c < system.cores → cores.reached ≤ clock_of cores.desk c
    pub most : (c : ℕ) → c < system.cores → clock_of cores.desk c ≤ horizon + 1
    pub watched : AreWatched cores.reached cores.desk.clocks cores.watches.items

  -- the cores' state was taken from a desk, with their findings between two times
  pub record HasTaken (from : ℕ) (desk : Table) (cores : Cores) : Type 0 where
    pub desk_is : cores.desk ≡ record desk { taken = cores.desk.taken }
    pub ahead : from ≤ cores.reached
    pub in_time : cores.reached ≤ desk.horizon + 1
    pub later : (c : ℕ) → c < system.cores → cores.reached ≤ clock_of desk c
    pub most : (c : ℕ) → c < system.cores → clock_of desk c ≤ desk.horizon + 1
    pub least : (to : ℕ) → to ≤ desk.horizon + 1 → ((c : ℕ) → c < system.cores → to ≤ clock_of desk c) → to ≤ cores.reached
    pub watched : AreWatched cores.reached desk.clocks cores.watches.items
    pub found : cores.found.items ≡ told_on_all system allowed from cores.reached

  -- one round later: its findings come next in the schedule, and some turns were taken unless all
  -- were
  pub record IsNext (before after : Cores) : Type 0 where
    pub ready : IsReady before.desk.horizon after
    pub ahead : before.reached ≤ after.reached
    pub found : told_in system allowed [] (clock system after.reached).rows ≡ told_in system allowed [] (clock system before.reached).rows ++ after.found.items
    pub fewer : (after.reached ≡ before.desk.horizon + 1) ⊎ (turns_left after.desk < turns_left before.desk)
