-- A context in good order shows its whole budget.
use Rattle.std.proofs.Common.{ℕ, ◌≤◌, refl}
use Rattle.mcs_refills.proofs.Apart.{servers-have-their-budgets}
use Rattle.mcs_control.specs.declared.config.Config.{Config}
use Rattle.mcs_control.specs.declared.config.Mode.{Mode}
use Rattle.mcs_control.specs.Context.{Budget, head_amount, view_of}
use Rattle.mcs_control.specs.Context.Budget.{Dates, Slice}
use Rattle.mcs_control.specs.laws.Contexts.{IsContext}
use Rattle.mcs_control.specs.laws.Shown.{ShowsBudget, ContextsShowTheirBudgets}
use Rattle.mcs_control.proofs.Contexts.{server_of, to-server, less-sporadic, equal-round_robin}

shown : (number using : ℕ) (config : Config) (mode : Mode) (budget : Budget) → IsContext (record { config = config; mode = mode; budget = budget }) →
    using ≤ head_amount (record { config = config; mode = mode; budget = budget }) → ShowsBudget config (view_of number using (record { config = config; mode = mode; budget = budget }))
shown number using config mode (Dates dates) h l =
    rw (less-sporadic config h.budget.0) (record { refills = servers-have-their-budgets config.budget (server_of config dates) (to-server config dates h.budget); using = l; no_slice = refl })
shown number using config mode (Slice left) h l =
    rw (equal-round_robin config h.budget.0) (record { no_refills = refl; left = left; is = refl; some = h.budget.1; within = h.budget.2; using = l })

pub contexts-show-their-budgets : ContextsShowTheirBudgets
contexts-show-their-budgets number using context h l = shown number using context.config context.mode context.budget h l
