-- Properties that hold for each context, and the dates that its charges take.
use Rattle.std.specs.Prelude.{◌≡◌, ℕ, ◌<◌, ◌≤◌, List, [], ◌∷◌, ◌++◌, length}
use Rattle.mcs_control.specs.declared.config.Config.{Config}
use Rattle.mcs_control.specs.declared.config.Mode.{Mode}
use Rattle.mcs_refills.specs.Server.{refills_of}
use Rattle.mcs_refills.specs.laws.Spacing.{AreKept, Step, AreProper, IsSpaced, used_by}
use Rattle.mcs_refills.specs.laws.Spacing.Step.{Charge, Unblock}
use Rattle.mcs_control.specs.Context.{Budget, Context, dates_in, new_context, context_charged, context_unblocked, context_woken, context_chosen, context_ordered, head_amount, max_refills_of}
use Rattle.mcs_control.specs.Context.Budget.{Dates, Slice}
use Rattle.mcs_control.specs.Control.{IsConfig, kind_of}

-- a sporadic context has one date for each tick of its budget, which ascend and span less than a
-- period; a slice has at least 1 tick and at most the budget left
abbrev pub IsWhole : Config → Budget → Type 0
IsWhole config (Dates dates) = AreKept config.budget config.period dates
IsWhole config (Slice left) = (1 ≤ left) × (left ≤ config.budget)

-- a budget of the configuration's kind: one date for each tick of the budget, which ascend and span
-- less than the period, in at most `max_refills` refills; or a slice with at least 1 tick and at
-- most the budget left
abbrev pub IsBudgetOf : Config → Budget → Type 0
IsBudgetOf config (Dates dates) =
    (config.budget < config.period) × AreKept config.budget config.period dates
    × (length (refills_of dates) ≤ max_refills_of config)
IsBudgetOf config (Slice left) = (config.budget ≡ config.period) × (1 ≤ left) × (left ≤ config.budget)

-- a context in good order
pub record IsContext (context : Context) : Type 0 where
  pub config : IsConfig context.config
  pub budget : IsBudgetOf context.config context.budget

-- a new context is in good order; a charge, unblocking, a wake and a choice keep it so; an order
-- makes it so under the new configuration
abbrev pub ContextsAreKept : Type 0
ContextsAreKept =
    ((config : Config) (mode : Mode) (at : ℕ) → IsConfig config → IsContext (new_context config mode at))
    × ((k min_budget : ℕ) (context : Context) → IsContext context → 1 ≤ k → k ≤ head_amount context
    → IsContext (context_charged k min_budget context))
    × ((t : ℕ) (context : Context) → IsContext context → IsContext (context_unblocked t context))
    × ((t : ℕ) (context : Context) → IsContext context → IsContext (context_woken t context))
    × ((t : ℕ) (context : Context) → IsContext context → IsContext (context_chosen t context))
    × ((t : ℕ) (config : Config) (context : Context) → IsContext context → IsConfig config → kind_of config
    ≡ kind_of context.config → IsContext (context_ordered t config context))

-- a step of a context: a charge, or the unblocking of a wake or a choice
abbrev pub context_stepped : Step → Context → Context
context_stepped (Charge k min_budget) context = context_charged k min_budget context
context_stepped (Unblock t) context = context_unblocked t context

-- the dates that a step takes from a budget
abbrev pub used_from : Step → Budget → List ℕ
used_from step budget = used_by step (dates_in budget)

-- the dates that charges take from a context, in order
abbrev pub consumed_from : List Step → Context → List ℕ
consumed_from [] context = []
consumed_from (step ∷ steps) context =
    used_from step context.budget ++ consumed_from steps (context_stepped step context)

-- with no order between, the date a whole budget later is at least a period later
abbrev pub ConsumedAreSpaced : Type 0
ConsumedAreSpaced =
    (context : Context) (steps : List Step) → IsContext context → AreProper steps →
    IsSpaced context.config.budget context.config.period (consumed_from steps context)
