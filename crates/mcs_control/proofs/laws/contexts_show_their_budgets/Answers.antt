use Rattle.mcs_control.proofs.Shown.{contexts-show-their-budgets}
use Rattle.mcs_control.proofs.laws.contexts_show_their_budgets.Goals as goal

pub returns : goal.returns
returns c = contexts-show-their-budgets
