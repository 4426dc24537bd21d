-- The context that the type holds.
use Rattle.std.specs.Prelude.{◌≡◌, ℕ}
use Rattle.mcs_refills.specs.Server.{server_unblocked}
use Rattle.mcs_control.specs.declared.config.Config.{Config}
use Rattle.mcs_control.specs.declared.config.Mode.{Mode}
use Rattle.mcs_control.specs.declared.context.Budget.{Budget}
use Rattle.mcs_control.specs.declared.context.Budget.TheVariants.{Sporadic, RoundRobin}
use Rattle.mcs_control.specs.Context as context
use Rattle.mcs_control.specs.Context.Budget.{Dates, Slice}
use Rattle.mcs_control.specs.laws.Contexts.{IsContext}

abbrev pub held_budget : Budget → context.Budget
held_budget (Sporadic server) = Dates server.dates
held_budget (RoundRobin slice) = Slice slice.left

abbrev pub held : Config → Mode → Budget → context.Context
held config mode budget = record { config = config; mode = mode; budget = held_budget budget }

-- the budget with its refills unblocked at t
abbrev pub unblocked : ℕ → Budget → Budget
unblocked t (Sporadic server) = Sporadic (server_unblocked t server)
unblocked t (RoundRobin slice) = RoundRobin slice

-- the refills or the slice have the configuration of the context
abbrev pub IsConfigured : Config → ℕ → Budget → Type 0
IsConfigured config room (Sporadic server) =
    (server.period ≡ config.period) × (server.max_refills ≡ context.max_refills_of config) × (server.room ≡ room)
IsConfigured config room (RoundRobin slice) = slice.budget ≡ config.budget

pub record IsHeld (config : Config) (mode : Mode) (budget : Budget) (room : ℕ) : Type 0 where
  pub context : IsContext (held config mode budget)
  pub configured : IsConfigured config room budget
