-- The views of the clock show the whole budgets.
use Rattle.std.proofs.Common.{ℕ, length, sym, subst, arith}
use Rattle.std.proofs.lemmas.List.FromFn.{length-map-range_with_len, get_or-map-range_with_len}
use Rattle.mcs_control.specs.declared.view.ContextView.{ContextView}
use Rattle.mcs_system.specs.System.{System}
use Rattle.mcs_system.specs.WellFormed.{IsWellFormed}
use Rattle.mcs_core.specs.Core.{Core}
use Rattle.mcs_core.specs.Clock.{world, core_shown}
use Rattle.mcs_laws.specs.Histories.{home_of}
use Rattle.mcs_laws.specs.Shown.{IsShown}
use Rattle.mcs_laws.proofs.Shown.{contexts-shown}
use Rattle.mcs_window.specs.Views.{view_in, views_in, AreShown}

-- each core as it is at its moment
pub views-shown : (system : System) → IsWellFormed system → (moment : ℕ → ℕ) → AreShown system moment (views_in system (λ c. core_shown system (world system (moment c)) c))
views-shown system well moment =
    record {
      many = length-map-range_with_len (view_in system cores) 0 (length system.contexts);
      each = λ k d l.
          let P : ContextView → Type 0 = λ view. IsShown system k (moment (home_of system k)) view in
          subst P (sym (get_or-map-range_with_len (view_in system cores) 0 (length system.contexts) k k d l (omega arith)))
          (contexts-shown system well k (moment (home_of system k)) l);
    }
  where
    cores : ℕ → Core
    cores c = core_shown system (world system (moment c)) c
