-- The run time of a thread, and its bound.
use Rattle.std.specs.Prelude.{◌≢◌, ℕ, zero, suc, ◌+◌, ◌-◌, ◌*◌, ◌/◌, ◌<◌, ◌≤◌, [], length}
use Rattle.mcs_control.specs.declared.config.Config.{Config}
use Rattle.mcs_control.specs.Context.{head_moment}
use Rattle.mcs_system.specs.System.{System, thread_part, context_part}
use Rattle.mcs_laws.specs.Histories.{home_before, context_before, orders_at, IsUnordered, IsNeverReconfigured}
use Rattle.mcs_laws.specs.InForce.{config_in_force}
use Rattle.mcs_laws.specs.Places.{times_running}

-- the number of periods that begin before the horizon, the first of them at time 0
abbrev pub periods_begun : ℕ → ℕ → ℕ
periods_begun horizon period = (horizon + (period - 1)) / period

module _ (system : System) (thread : ℕ) where
  -- the number of ticks before the horizon in which the thread runs; tick t belongs to the thread
  -- that the turn at t leaves running
  abbrev pub ticks_run : ℕ → ℕ
  ticks_run zero = 0
  ticks_run (suc t) =
      ticks_run t + times_running thread (home_before system (thread_part system thread).context (suc t)).running

  -- the configuration of its context in tick `from`: an order at `from` comes before the tick
  abbrev pub config_from : ℕ → Config
  config_from from = config_in_force system (thread_part system thread).context (suc from)

  -- no order for its context comes within these ticks; orders at `from` come before them, and those
  -- at `from + ticks` after them
  abbrev pub IsUnorderedOver : ℕ → ℕ → Type 0
  IsUnorderedOver from ticks = IsUnordered system (thread_part system thread).context (suc from) (ticks - 1)

  -- the date of its context's head in tick `from`; 0 for a slice
  abbrev pub head_from : ℕ → ℕ
  head_from from = head_moment (context_before system (thread_part system thread).context (suc from))

  -- the bound on its run time over these ticks, by the configuration in force: the budget for each
  -- period that begins before they end, the first of them at the head's date
  abbrev pub demand_over : ℕ → ℕ → ℕ
  demand_over from ticks =
      let config = config_from from in config.budget * periods_begun (from + ticks - head_from from) config.period

  -- the bound over ticks that begin with an order: the first period begins with them
  abbrev pub demand_since : ℕ → ℕ → ℕ
  demand_since from ticks = let config = config_from from in config.budget * periods_begun ticks config.period

  -- the bound on its run time before the horizon, if no order names its context: the budget in the
  -- file for each period that begins
  abbrev pub demand_of : ℕ → ℕ
  demand_of horizon =
      let config = (context_part system (thread_part system thread).context).config in
      config.budget * periods_begun horizon config.period

-- over ticks without an order for its context, whatever orders come before or after them, no thread
-- runs longer than that
abbrev pub StretchesAreWithinDemand : System → Type 0
StretchesAreWithinDemand system =
    (thread from ticks : ℕ) → thread < length system.threads → IsUnorderedOver system thread from ticks →
    ticks_run system thread (from + ticks) ≤ ticks_run system thread from + demand_over system thread from ticks

-- from an order for its context on, up to the next one, no thread runs longer than that
abbrev pub OrdersBeginDemand : System → Type 0
OrdersBeginDemand system =
    (thread from ticks : ℕ) → thread < length system.threads
    → orders_at system (thread_part system thread).context from ≢ [] → IsUnorderedOver system thread from ticks →
    ticks_run system thread (from + ticks) ≤ ticks_run system thread from + demand_since system thread from ticks

-- no thread whose context no order names runs longer than that
abbrev pub ThreadsRunWithinDemand : System → Type 0
ThreadsRunWithinDemand system =
    (thread horizon : ℕ) → thread < length system.threads
    → IsNeverReconfigured system (thread_part system thread).context →
    ticks_run system thread horizon ≤ demand_of system thread horizon
