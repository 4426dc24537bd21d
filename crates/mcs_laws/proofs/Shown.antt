-- At each moment each context shows its whole budget.
use Rattle.std.proofs.Common.{◌≡◌, ℕ, ◌≤◌, Bool, true, false, cond, Option, Some, None, refl, subst, arith}
use Rattle.std.specs.Prelude.{◌==◌}
use Rattle.std.proofs.lemmas.Bool.Decides.{nat_tests}
use Rattle.mcs_control.specs.declared.config.Config.{Config}
use Rattle.mcs_control.specs.Context.{Context, head_amount}
use Rattle.mcs_control.specs.laws.Shown.{ShowsBudget}
use Rattle.mcs_control.proofs.Shown.{contexts-show-their-budgets}
use Rattle.mcs_system.specs.System.{System, thread_part}
use Rattle.mcs_system.specs.WellFormed.{IsWellFormed}
use Rattle.mcs_core.specs.declared.standing.Chosen.{Chosen}
use Rattle.mcs_core.specs.Views.{using_of}
use Rattle.mcs_laws.specs.Histories as told
use Rattle.mcs_laws.specs.Shown.{ItsThreadRuns, view_before, ContextsAreShown}
use Rattle.mcs_laws.proofs.Histories.{budgets-kept}
use Rattle.mcs_laws.proofs.InForce.{has-the-budget}

equal : (a b : ℕ) → (a == b) ≡ true → a ≡ b
equal a b e = grind (arith, nat_tests)

module _ (system : System) (x : ℕ) where
  -- no more is in use than the head has
  in-head : (o : Option Chosen) (k : Context) → told.UsesLess system x o k → using_of system x o ≤ head_amount k
  in-head None k h = omega arith
  in-head (Some chosen) k h = by ((thread_part system chosen.thread).context == x) refl
    where
      by : (b : Bool) → ((thread_part system chosen.thread).context == x) ≡ b → cond b chosen.using 0 ≤ head_amount k
      by true e = omega (arith, h (equal (thread_part system chosen.thread).context x e))
      by false e = omega arith

  -- no ticks are in use unless its thread runs
  none-used : (t : ℕ) (o : Option Chosen) → (told.home_before system x t).running ≡ o → ¬ ItsThreadRuns system x t → using_of system x o ≡ 0
  none-used t None e h = refl
  none-used t (Some chosen) e h = by ((thread_part system chosen.thread).context == x) refl
    where
      by : (b : Bool) → ((thread_part system chosen.thread).context == x) ≡ b → cond b chosen.using 0 ≡ 0
      by true f = absurd (h (record { chosen = chosen; runs = e; bound = equal (thread_part system chosen.thread).context x f }))
      by false f = refl

pub contexts-shown : (system : System) → IsWellFormed system → ContextsAreShown system
contexts-shown system well x t known =
    let k = told.context_before system x t in
    let running = (told.home_before system x t).running in
    let in_force = has-the-budget system well x known t in
    let uses = (budgets-kept system well x t known).uses in
    record {
      number = refl;
      budget = let P : Config → Type 0 = λ config. ShowsBudget config (view_before system x t) in
          subst P in_force.config (contexts-show-their-budgets x (using_of system x running) k in_force.whole (in-head system x running k uses));
      idle = λ h. none-used system x t running refl h;
    }
