-- Turns that are taken to the end.
use Rattle.std.proofs.Common.{◌≡◌, ℕ, ◌⊎◌, inl, inr, ◌<◌, ◌≤◌, false, List, refl, ap, ◌∙◌, subst, arith}
use Rattle.std.specs.Prelude.{slice_index}
use Rattle.mcs_system.specs.System.{System}
use Rattle.mcs_window.specs.Desk.{Table, amount_kept, taken_of, turns_left, AllAreHere, IsFinished, IsLater}
use Rattle.mcs_team.proofs.Rounds.{sum-none}

-- a desk that keeps no rows never has enough of them
pub ends : {enough : ℕ} (desk : Table) → IsFinished desk ⊎ (enough ≤ amount_kept (λ _. 0) desk) → 0 < enough → IsFinished desk
ends desk (inl finished) some = finished
ends desk (inr much) some = absurd (let none = sum-none (λ _. 0) desk.system.cores 0 0 (λ c l. refl) in omega arith)

-- a desk of this run on which no piece is lent or lost, and from which no rows were taken
pub record IsCounting (system : System) (horizon : ℕ) (desk : Table) : Type 0 where
  pub run : (desk.system ≡ system) × (desk.horizon ≡ horizon)
  pub sound : desk.lost ≡ false
  pub here : AllAreHere desk
  pub first : (c : ℕ) → c < desk.system.cores → taken_of desk c ≡ 0

pub counting-on : (system : System) (horizon : ℕ) (desk after : Table) → IsCounting system horizon desk → IsLater desk after → IsCounting system horizon after
counting-on system horizon desk after is later =
    record {
      run = (later.system_is ∙ is.run.0, later.horizon_is ∙ is.run.1);
      sound = later.sound;
      here = later.here;
      first = λ c l. ap (λ (xs : List ℕ). slice_index xs c) later.taken_are ∙ is.first c (subst (λ (s : System). c < s.cores) later.system_is l);
    }

-- the run continues until it has ended
pub goes-on : (desk after : Table) → ¬ IsFinished after → IsFinished after ⊎ (turns_left after < turns_left desk) → turns_left after < turns_left desk
goes-on desk after not (inl over) = absurd (not over)
goes-on desk after not (inr less) = less
