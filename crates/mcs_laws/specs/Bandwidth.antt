-- The bound on a thread's run time within a period, if its context is in bandwidth mode.
use Rattle.std.specs.Prelude.{◌≡◌, ℕ, ◌+◌, ◌<◌, ◌≤◌, length}
use Rattle.mcs_control.specs.declared.config.Mode.TheVariants.{Bandwidth}
use Rattle.mcs_system.specs.declared.part.ContextPart.{ContextPart}
use Rattle.mcs_system.specs.System.{System, thread_part, context_part}
use Rattle.mcs_laws.specs.Histories.{IsNeverReconfigured}
use Rattle.mcs_laws.specs.Demand.{ticks_run, config_from, IsUnorderedOver}

module _ (system : System) (thread : ℕ) where
  -- the context to which it is bound
  abbrev pub its_part : ContextPart
  its_part = context_part system (thread_part system thread).context

  -- a thread of the system, whose context is in bandwidth mode
  pub record IsInBandwidthMode : Type 0 where
    pub known : thread < length system.threads
    pub mode : its_part.mode ≡ Bandwidth

  -- at most a period of ticks, by the period in force, within which no order for its context comes
  pub record IsWithinAPeriod (from ticks : ℕ) : Type 0 where
    pub short : ticks ≤ (config_from system thread from).period
    pub unordered : IsUnorderedOver system thread from ticks

  -- in these ticks it runs for at most the budget in force
  abbrev pub RunsWithinTheBudgetInForce : ℕ → ℕ → Type 0
  RunsWithinTheBudgetInForce from ticks =
      ticks_run system thread (from + ticks) ≤ ticks_run system thread from + (config_from system thread from).budget

  -- a thread of the system, whose context is in bandwidth mode and which no order names
  pub record HasBandwidth : Type 0 where
    pub known : thread < length system.threads
    pub mode : its_part.mode ≡ Bandwidth
    pub unordered : IsNeverReconfigured system (thread_part system thread).context

  -- it runs for at most its budget in the file in this many ticks from this moment on
  abbrev pub RunsWithinBudget : ℕ → ℕ → Type 0
  RunsWithinBudget from ticks =
      ticks_run system thread (from + ticks) ≤ ticks_run system thread from + its_part.config.budget

-- a thread in bandwidth mode runs for at most the budget in force in any stretch of a period or
-- less in which no order for its context comes
abbrev pub StretchesAreWithinBandwidth : System → Type 0
StretchesAreWithinBandwidth system =
    (thread from ticks : ℕ) → IsInBandwidthMode system thread → IsWithinAPeriod system thread from ticks →
    RunsWithinTheBudgetInForce system thread from ticks

-- if no order names its context, it runs for at most its budget in any stretch of a period or less
abbrev pub BandwidthIsBounded : System → Type 0
BandwidthIsBounded system =
    (thread from ticks : ℕ) → HasBandwidth system thread → ticks ≤ (its_part system thread).config.period
    → RunsWithinBudget system thread from ticks
