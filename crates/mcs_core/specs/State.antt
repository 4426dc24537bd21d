-- The state of one core as a caller holds it.
use Rattle.std.specs.Prelude.{◌≡◌, ℕ, ◌<◌, ◌≤◌, ◌-◌, ◌+◌, ◌^◌, max, Bool, false, List, length, map, None}
use Rattle.std.specs.List.{range_with_len}
use Rattle.mcs_ticks.specs.Queue.{in_one_list}
use Rattle.mcs_control.specs.declared.config.Order.{Order}
use Rattle.mcs_mail.specs.declared.mail.Mail.{Mail}
use Rattle.mcs_system.specs.System.{System, note_part, delay_between}
use Rattle.mcs_core.specs.Core.{Core, opening_core}
use Rattle.mcs_core.specs.Alarms.{alarms_of}
use Rattle.mcs_core.specs.declared.alarm.Alarm.{Alarm}
use Rattle.mcs_core.specs.Orders.{orders_of, to_come}
use Rattle.mcs_core.specs.Quiet.{counted_times}
use Rattle.mcs_core.specs.Run.{Ran, ran, ran_with}
use Rattle.mcs_core.specs.Clock.{shown}
use Rattle.mcs_core.specs.stored.Sound.{IsSound}
use Rattle.mcs_core.specs.stored.Sound.Phase.{Between}

-- the delay of a signal of this core to each core
abbrev pub delays_from : System → ℕ → List ℕ
delays_from system c = map (delay_between system c) (range_with_len 0 64)

-- `clock`: the time of the next turn; `orders`: those that it has yet to obey; `alarms`: the
-- initial ones; `delays`: those of its signals to each core; `failed`: memory ran out, or a sink
-- refused a row
pub record State : Type 0 where
  pub number : ℕ
  pub clock : ℕ
  pub core : Core
  pub orders : List Order
  pub alarms : List Alarm
  pub delays : List ℕ
  pub failed : Bool

abbrev pub opening_state : System → ℕ → State
opening_state system c =
    record {
      number = c;
      clock = 0;
      core = opening_core system c;
      orders = orders_of system c;
      alarms = alarms_of system c;
      delays = delays_from system c;
      failed = false;
    }

-- the state is one of a core of this system: its threads, contexts and notifications, those of them
-- that are its own, the threads' contexts and places, the kinds, the orders and the delays agree
-- with the system; no budget in force is below the minimum. After a failure only number and clock
-- have to be in range
pub record Fits (system : System) (state : State) : Type 0 where
  pub known : state.number < system.cores
  pub early : state.clock ≤ 2 ^ 40 + 1
  pub sound : state.failed ≡ false → IsSound system state.number state.clock Between None state.core
  pub orders : state.failed ≡ false → state.orders ≡ to_come state.clock (orders_of system state.number)
  pub alarms : state.failed ≡ false → state.alarms ≡ alarms_of system state.number
  pub delays : state.failed ≡ false → state.delays ≡ delays_from system state.number

-- mail of its box: for a notification of this core, and not before the clock
pub record IsExpected (system : System) (state : State) (mail : Mail) : Type 0 where
  pub known : mail.note < length system.notes
  pub home : (note_part system mail.note).core ≡ state.number
  pub arrives : state.clock ≤ mail.arrives

-- the results of the turns before moment `to`, with this mail
abbrev pub made_by : System → State → ℕ → List Mail → Ran
made_by system state to box = ran system state.number (to - state.clock) state.clock state.core box

-- the state after them; no turn is taken back
abbrev pub state_after : State → ℕ → Ran → State
state_after state to made =
    record state {
      clock = max state.clock to;
      core = made.core;
      orders = to_come to state.orders;
    }

-- the results of turns, as the state of a core shows them
abbrev pub ran_shown : Ran → Ran
ran_shown made = record made { core = shown made.core }

-- these turns are those of each core that keeps its ready threads in one list and that the state
-- shows: the same rows, signals and box, and after them the state shows that core
abbrev pub AreOfOneList : System → State → ℕ → List Mail → Type 0
AreOfOneList system state to box =
    (core : Core) → state.core ≡ shown core →
    made_by system state to box
    ≡ ran_shown (ran_with in_one_list system state.number (to - state.clock) state.clock core box)

-- the state after all turns before moment `to`, which are quiet: their ticks are counted
abbrev pub skipped : System → ℕ → State → State
skipped system to state =
    record state { clock = to; core = counted_times system state.number (to - state.clock) state.core }
