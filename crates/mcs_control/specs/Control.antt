-- The configurations that SchedControl accepts.
use Rattle.std.specs.Prelude.{◌≡◌, ℕ, ◌^◌, ◌≤◌, Bool, true, false, ◌==◌, nat_lt, IsTrue, if◌then◌else◌, Result, Ok, Err}
use Rattle.mcs_control.specs.declared.config.Config.{Config}
use Rattle.mcs_control.specs.declared.config.Kind.{Kind}
use Rattle.mcs_control.specs.declared.config.Kind.TheVariants.{Sporadic, RoundRobin}
use Rattle.mcs_control.specs.declared.config.Mode.{Mode}
use Rattle.mcs_control.specs.declared.config.Mode.TheVariants as modes
use Rattle.mcs_control.specs.declared.config.ControlFault.{ControlFault}
use Rattle.mcs_control.specs.declared.config.ControlFault.TheVariants.{ZeroBudget, BudgetTooSmall, BudgetOverPeriod, PeriodTooLong, TooManyRefills}

-- round-robin if the budget equals the period
abbrev pub kind_of : Config → Kind
kind_of config = if config.budget == config.period then RoundRobin else Sporadic

-- whether a context of this kind may have the mode: a round-robin context is never unblocked, so it
-- has only the first mode
abbrev pub takes : Kind → Mode → Bool
takes Sporadic mode = true
takes RoundRobin modes.Sporadic = true
takes RoundRobin modes.Bandwidth = false

abbrev pub IsModeOf : Kind → Mode → Type 0
IsModeOf kind mode = IsTrue (takes kind mode)

-- the first fault of a configuration, or else its kind
abbrev pub checked : ℕ → Config → Result Kind ControlFault
checked min_budget config =
    if config.budget == 0 then Err ZeroBudget
    else if nat_lt config.budget min_budget then Err BudgetTooSmall
    else if nat_lt config.period config.budget then Err BudgetOverPeriod
    else if nat_lt (2 ^ 40) config.period then Err PeriodTooLong
    else if nat_lt 64 config.extra then Err TooManyRefills
    else Ok (kind_of config)

-- a configuration that passes the check, for any minimum budget
pub record IsConfig (config : Config) : Type 0 where
  pub some : 1 ≤ config.budget
  pub within : config.budget ≤ config.period
  pub short : config.period ≤ 2 ^ 40
  pub few : config.extra ≤ 64

abbrev pub PassedAreConfigs : Type 0
PassedAreConfigs =
    (min_budget : ℕ) (config : Config) (kind : Kind) → checked min_budget config ≡ Ok kind → IsConfig config
    × (kind ≡ kind_of config)
