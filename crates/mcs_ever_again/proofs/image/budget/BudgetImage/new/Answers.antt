use Rattle.std.proofs.Common.{sym, ◌∙◌}
use Rattle.mcs_ever_again.proofs.RefillDates.{dates-shown}
use Rattle.mcs_ever_again.proofs.image.budget.BudgetImage.new.Goals as goal

pub returns-in-None : goal.returns-in-None
returns-in-None c = λ budget shown none. rw c.new.ensures (dates-shown c.args.refills.items budget shown (sym c.in-None.is ∙ none))
