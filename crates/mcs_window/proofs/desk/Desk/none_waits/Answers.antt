use Rattle.std.proofs.Common.{ℕ, subst}
use Rattle.mcs_window.specs.Desk.{Table, AllAreHere, IsFinished, MayLend}
use Rattle.mcs_window.proofs.Lends.{all_done}
use Rattle.mcs_window.proofs.desk.Desk.none_waits.Goals as goal

pub returns : goal.returns
returns g c =
    let P : Table → Type 0 = λ t. AllAreHere t → ((k : ℕ) → ¬ MayLend t k) → IsFinished t in
    let done : P c.args.self.now = subst P c.self.view_is (all_done c.self.inside c.self.invariant) in
    done c.requires.here c.requires.none
