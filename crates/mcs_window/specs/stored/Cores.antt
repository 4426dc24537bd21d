-- The invariant of `Cores` between its calls: each core has, at its clock, the state of the global
-- clock.
use Rattle.std.specs.Prelude.{◌≡◌, ℕ, ◌+◌, ◌<◌, ◌≤◌, ◌^◌, max, false, List, [], length, slice_index, slice_index_or, Vec}
use Rattle.std.specs.Arc.{arc_value}
use Rattle.std.specs.declared.alloc.Global.{Global}
use Rattle.mcs_ticks.specs.declared.row.Row.{Row}
use Rattle.mcs_mail.specs.declared.mail.Mail.{Mail}
use Rattle.mcs_mail.specs.Box.{Content}
use Rattle.mcs_system.specs.System.{System}
use Rattle.mcs_system.specs.WellFormed.{IsWellFormed}
use Rattle.mcs_core.specs.State.{State}
use Rattle.mcs_stretch.specs.Inbox.{inbox}
use Rattle.mcs_stretch.specs.Idle.{IsIdle}
use Rattle.mcs_stretch.specs.Stretch.{StandsAt, NothingArrivesBefore}
use Rattle.mcs_window.specs.Desk.{AreToldBetween}
use Rattle.mcs_window.specs.Progress.{Progress}
use Rattle.mcs_window.specs.stored.Opening.{HasItems, AreDelays}
use Rattle.mcs_window.specs.declared.cores.Cores.TheInside.{Inside}

abbrev pub progress_of : Inside → Progress
progress_of a =
    record {
      system = arc_value a.system;
      horizon = a.horizon;
      clocks = a.clocks.items;
      taken = a.taken.items;
      failed = a.failed;
    }

-- a core at its clock, by the clocks of all: its state, its inbox, and no signal that another core
-- has yet to make arrives before its clock
pub record IsHere (system : System) (core clock : ℕ) (clocks : List ℕ) (state : State) (box : List Mail) : Type 0 where
  pub reached : NothingArrivesBefore system core clock clocks
  pub state_is : StandsAt system core clock state
  pub box_is : box ≡ inbox system core clock clocks

-- each core is at its clock
abbrev pub AreHere : System → List ℕ → List State → List Content → Type 0
AreHere system clocks states boxes =
    (core : ℕ) (state : State) (box : Content) → core < system.cores →
    IsHere system core (slice_index clocks core) clocks (slice_index_or states core state)
    (slice_index_or boxes core box).mails

-- the state of each core at its clock
abbrev pub AreAt : System → List ℕ → List State → Type 0
AreAt system clocks states =
    (core : ℕ) (state : State) → core < system.cores →
    StandsAt system core (slice_index clocks core) (slice_index_or states core state)

-- the moment until which the cores below this number are idle, at most `past`
pub record AreIdleBelow (system : System) (clocks : List ℕ) (past many moment : ℕ) : Type 0 where
  pub in_time : moment ≤ past
  pub idle : (core : ℕ) → core < many → IsIdle system clocks moment core
  pub busy : moment < past → ¬ ((core : ℕ) → core < many → IsIdle system clocks (moment + 1) core)

-- the earlier clocks of the cores below this number are set to the moment, and the other clocks
-- stay
pub record AreSetBelow (clocks : List ℕ) (moment many : ℕ) (later : List ℕ) : Type 0 where
  pub many_are : length later ≡ length clocks
  pub done : (core : ℕ) → core < many → slice_index later core ≡ max (slice_index clocks core) moment
  pub left : (core : ℕ) → many ≤ core → slice_index later core ≡ slice_index clocks core

-- each core below this number has moved there with its clock
pub record AreSkipped (system : System) (clocks : List ℕ) (states : List State) (moment many : ℕ) (later : List ℕ)
    (after : List State) : Type 0 where
  pub clocks_are : AreSetBelow clocks moment many later
  pub many_are : length after ≡ length states
  pub states_are : AreAt system later after

-- no turn is half taken
pub record AreWhole (system : System) (clocks : List ℕ) (states : List State) (boxes : List Content)
    (signals : List Mail) : Type 0 where
  pub here : AreHere system clocks states boxes
  pub no_signals : signals ≡ []

-- no clock is later than one past the horizon, and each core's rows are those since they were last
-- taken
pub record AreSince {S : Type 0} (holds : S → List Row → Type 0) (system : System) (horizon : ℕ) (clocks taken : List ℕ)
    (told : List S) : Type 0 where
  pub in_time : (c : ℕ) → c < system.cores → slice_index clocks c ≤ horizon + 1
  pub in_order : (c : ℕ) → c < system.cores → slice_index taken c ≤ slice_index clocks c
  pub told_are : AreToldBetween holds system taken clocks told

-- the clocks, and the rows since they were last taken
pub record AreKept (system : System) (horizon : ℕ) (clocks taken : List ℕ) (rows : List (Vec Row Global)) : Type 0 where
  pub clocks_of : length clocks ≡ system.cores
  pub taken_of : length taken ≡ system.cores
  pub since : AreSince HasItems system horizon clocks taken rows

pub record IsKept (a : Inside) : Type 0 where
  pub horizon : a.horizon ≤ 2 ^ 40
  pub well_formed : IsWellFormed (arc_value a.system)
  pub states_of : length a.states.items ≡ (arc_value a.system).cores
  pub boxes_of : length a.boxes.items ≡ (arc_value a.system).cores
  pub delays_are : AreDelays (arc_value a.system) (arc_value a.system).cores a.delays.items
  pub kept : AreKept (arc_value a.system) a.horizon a.clocks.items a.taken.items a.rows.items
  pub whole : a.failed ≡ false
      → AreWhole (arc_value a.system) a.clocks.items a.states.items a.boxes.items a.signals.items
