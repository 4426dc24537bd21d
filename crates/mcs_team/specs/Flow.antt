-- Rows of the cores on their way to an output. They wait until the clocks of all cores have passed
-- them, and are then written.
use Rattle.std.specs.Prelude.{◌≡◌, ℕ, ◌+◌, ◌<◌, ◌≤◌, Bool, false, List, ◌++◌, length, slice_index}
use Rattle.mcs_ticks.specs.declared.row.Row.{Row}
use Rattle.mcs_ticks.specs.Given.{Given, GivenUntil, GivenSome}
use Rattle.mcs_merge.specs.Parts.{all_from, AreHeld}
use Rattle.mcs_system.specs.System.{System}
use Rattle.mcs_core.specs.Clock.{clock, schedule}
use Rattle.mcs_stretch.specs.laws.Merging.{rows_until}
use Rattle.mcs_window.specs.Desk.{Table, clock_of, taken_of, AllAreHere}
use Rattle.mcs_team.specs.declared.run.Stop.{Stop}
use Rattle.mcs_team.specs.declared.run.Stop.TheVariants.{Fault, Odd}
use Rattle.mcs_ticks.specs.declared.sink.FlowFault.{FlowFault}
use Rattle.mcs_ticks.specs.declared.sink.FlowFault.TheVariants as fault

-- rows wait for an output: those of each core from time t to before a time per core
pub record Waits {O P : Type 0} (holds : O → P → List Row → Type 0) (system : System) (horizon t : ℕ) (pasts : List ℕ)
    (parts : List (List P)) (out : O) : Type 0 where
  pub many_are : length pasts ≡ system.cores
  pub early : (core : ℕ) → core < system.cores → slice_index pasts core ≤ horizon + 1
  pub passed : (core : ℕ) → core < system.cores → t ≤ slice_index pasts core
  pub held : AreHeld holds out parts (all_from t (rows_until system pasts))

-- the rows of each core were last taken from the desk at its time
pub record AreTakenTo (pasts : List ℕ) (table : Table) : Type 0 where
  pub many_are : length pasts ≡ table.system.cores
  pub each : (core : ℕ) → core < table.system.cores → taken_of table core ≡ slice_index pasts core

-- the time of each core is its clock
abbrev pub AreAtClocks : List ℕ → Table → Type 0
AreAtClocks pasts table = (core : ℕ) → core < table.system.cores → slice_index pasts core ≡ clock_of table core

-- a desk of this run on which no piece is lent or lost. All rows that each core made before its
-- time were taken from it.
pub record IsClear (system : System) (horizon : ℕ) (desk : Table) (pasts : List ℕ) (end : ℕ) : Type 0 where
  pub system_is : desk.system ≡ system
  pub horizon_is : desk.horizon ≡ horizon
  pub sound : desk.lost ≡ false
  pub here : AllAreHere desk
  pub long : desk.system.cores ≤ length desk.taken
  pub taken : AreTakenTo pasts desk
  pub end_is : end ≡ horizon + 1

-- the rows that an output was given when a run fails
abbrev pub IsFlowFault : {O : Type 0} → (O → Row → Bool → O → Type 0) →
    System → ℕ → O → O → FlowFault → Type 0
IsFlowFault takes system horizon before after fault.Sink = GivenUntil takes before (schedule system horizon) after
IsFlowFault takes system horizon before after fault.NoMemory = GivenSome takes before (schedule system horizon) after

-- an output was given the rows of the schedule from time t to before time u
abbrev pub IsGivenBetween : {O : Type 0} → (O → Row → Bool → O → Type 0) → System → ℕ → ℕ → O → O → Type 0
IsGivenBetween takes system t u before after =
    (rows : List Row) × ((clock system t).rows ++ rows ≡ (clock system u).rows) × Given takes before rows after

-- the run failed: an output that had the rows before time t has not been given all of them
abbrev pub FailsFrom : {O : Type 0} → (O → Row → Bool → O → Type 0) →
    System → ℕ → ℕ → O → O → FlowFault → Type 0
FailsFrom {O} takes system horizon t before after why =
    (s : O) → Given takes s (clock system t).rows before → IsFlowFault takes system horizon s after why

-- how a team stops: it fails as above, or something is not as the run left it and the rows before a
-- time were given
abbrev pub IsStop : {O : Type 0} → (O → Row → Bool → O → Type 0) → System → ℕ → ℕ → O → O → Stop → Type 0
IsStop takes system horizon t before after (Fault why) = FailsFrom takes system horizon t before after why
IsStop takes system horizon t before after (Odd m) = (m ≤ horizon + 1) × IsGivenBetween takes system t m before after
