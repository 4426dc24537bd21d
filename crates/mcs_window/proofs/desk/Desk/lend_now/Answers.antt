use Rattle.std.proofs.Common.{subst}
use Rattle.mcs_window.specs.Desk.{Table, AllAreHere, IsFinished, MayLend}
use Rattle.mcs_window.proofs.Lends.{all_done}
use Rattle.mcs_window.proofs.desk.Desk.lend_now.Goals as goal

pub returns-in_err-core-clause-goes_on : goal.returns-in_err-core-clause-goes_on
returns-in_err-core-clause-goes_on g c =
    let P : Table → Type 0 = λ t. AllAreHere t → ((k : _) → ¬ MayLend t k) → IsFinished t in
    let done : P c.args.self.now = subst P c.self.view_is (all_done c.self.inside c.self.invariant) in
    rw c.from_residual.ensures (λ _ here. done here c.in_err-core.ensures.none)
