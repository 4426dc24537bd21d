use Rattle.std.proofs.Common.{ℕ, rules}
use Rattle.std.proofs.lemmas.Slice.Eq.{slice_eq-Decides}
use Rattle.mcs_window.proofs.settle.same_front.Goals as goal

pub returns : goal.returns
returns c = slice_eq-Decides (λ (a b : ℕ). search rules) _ _ _ c.eq.ensures
