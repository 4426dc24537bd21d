-- The budget that a view shows of a context with this configuration.
use Rattle.std.specs.Prelude.{◌≡◌, ℕ, ◌≤◌, [], Some, None}
use Rattle.mcs_refills.specs.Server.{first_amount}
use Rattle.mcs_refills.specs.laws.Apart.{HaveBudget}
use Rattle.mcs_control.specs.declared.config.Config.{Config}
use Rattle.mcs_control.specs.declared.config.Kind.{Kind}
use Rattle.mcs_control.specs.declared.config.Kind.TheVariants.{Sporadic, RoundRobin}
use Rattle.mcs_control.specs.declared.view.ContextView.{ContextView}
use Rattle.mcs_control.specs.Control.{kind_of}
use Rattle.mcs_control.specs.Context.{Context, head_amount, max_refills_of, view_of}
use Rattle.mcs_control.specs.laws.Contexts.{IsContext}

-- refills that neither touch nor overlap, sum to the budget, are at most `2 + extra` and span at
-- most the period; the ticks in use belong to the head
pub record ShowsRefills (config : Config) (view : ContextView) : Type 0 where
  pub refills : HaveBudget config.budget config.period (max_refills_of config) view.refills
  pub using : view.using ≤ first_amount view.refills
  pub no_slice : view.left ≡ None

-- the rest of a slice: at least 1 tick and at most the budget; the ticks in use are among them
pub record ShowsSlice (config : Config) (view : ContextView) : Type 0 where
  pub no_refills : view.refills ≡ []
  pub left : ℕ
  pub is : view.left ≡ Some left
  pub some : 1 ≤ left
  pub within : left ≤ config.budget
  pub using : view.using ≤ left

-- the whole budget is shown, by kind
abbrev pub ShowsBudgetOf : Kind → Config → ContextView → Type 0
ShowsBudgetOf Sporadic config view = ShowsRefills config view
ShowsBudgetOf RoundRobin config view = ShowsSlice config view

abbrev pub ShowsBudget : Config → ContextView → Type 0
ShowsBudget config view = ShowsBudgetOf (kind_of config) config view

-- a context in good order shows its whole budget, if the ticks in use are at most those of its head
abbrev pub ContextsShowTheirBudgets : Type 0
ContextsShowTheirBudgets =
    (number using : ℕ) (context : Context) → IsContext context → using ≤ head_amount context
    → ShowsBudget context.config (view_of number using context)
