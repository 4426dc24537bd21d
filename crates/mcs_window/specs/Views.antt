-- The views of all contexts: each context once, in file order.
use Rattle.std.specs.Prelude.{◌≡◌, ℕ, ◌<◌, false, List, map, get_or, length, slice_index, slice_index_or}
use Rattle.std.specs.List.{range_with_len}
use Rattle.mcs_control.specs.declared.view.ContextView.{ContextView}
use Rattle.mcs_control.specs.Context.{view_of}
use Rattle.mcs_system.specs.System.{System, context_part}
use Rattle.mcs_core.specs.Core.{Core, context_of}
use Rattle.mcs_core.specs.Clock.{world, core_at}
use Rattle.mcs_core.specs.State.{State, Fits}
use Rattle.mcs_core.specs.Views.{using_of}
use Rattle.mcs_laws.specs.Histories.{home_of}
use Rattle.mcs_laws.specs.Shown.{IsShown}

module _ (system : System) where
  -- the view of context x, with the state of its core in `cores`
  abbrev pub view_in : (ℕ → Core) → ℕ → ContextView
  view_in cores x =
      let core = cores (context_part system x).core in
      view_of x (using_of system x core.running) (context_of core x)

  abbrev pub views_in : (ℕ → Core) → List ContextView
  views_in cores = map (view_in cores) (range_with_len 0 (length system.contexts))

  -- all contexts, each as its core has it before the moment of the core's clock
  abbrev pub views_at : List ℕ → List ContextView
  views_at clocks = views_in (λ c. core_at system (world system (slice_index clocks c)) c)

  -- all contexts, each as its core has it before moment t
  abbrev pub views_before : ℕ → List ContextView
  views_before t = views_in (λ c. core_at system (world system t) c)

  -- a view for each context, in file order, which shows the whole budget that the context has at
  -- its core's time in `moment`
  pub record AreShown (moment : ℕ → ℕ) (views : List ContextView) : Type 0 where
    pub many : length views ≡ length system.contexts
    pub each : (k : ℕ) (d : ContextView) → k < length system.contexts
        → IsShown system k (moment (home_of system k)) (get_or views k d)

  -- at the clocks of the cores, and before moment t
  abbrev pub AreShownAt : List ℕ → List ContextView → Type 0
  AreShownAt clocks views = AreShown (slice_index clocks) views

  abbrev pub AreShownBefore : ℕ → List ContextView → Type 0
  AreShownBefore t views = AreShown (λ c. t) views

  -- the states of all cores; no core has failed
  pub record AreStates (states : List State) : Type 0 where
    pub many : length states ≡ system.cores
    pub number_is : (c : ℕ) (x : State) → c < system.cores → (slice_index_or states c x).number ≡ c
    pub whole : (c : ℕ) (x : State) → c < system.cores → (slice_index_or states c x).failed ≡ false
    pub fit : (c : ℕ) (x : State) → c < system.cores → Fits system (slice_index_or states c x)
