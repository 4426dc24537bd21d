-- The budget of an image.
use Rattle.mcs_control.specs.Context.{Budget}
use Rattle.mcs_control.specs.Context.Budget.{Dates, Slice}
use Rattle.mcs_ever_again.specs.declared.image.budget.BudgetImage.{BudgetImage}
use Rattle.mcs_ever_again.specs.declared.image.budget.BudgetImage.TheVariants.{Sporadic, RoundRobin}

-- the dates of the refills, or the rest of the slice
abbrev pub budget_of : BudgetImage → Budget
budget_of (Sporadic dates) = Dates dates
budget_of (RoundRobin left) = Slice left
