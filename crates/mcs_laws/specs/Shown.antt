-- The view of a context at a moment.
use Rattle.std.specs.Prelude.{◌≡◌, ℕ, ◌<◌, length, Some}
use Rattle.mcs_control.specs.declared.view.ContextView.{ContextView}
use Rattle.mcs_control.specs.Context.{view_of}
use Rattle.mcs_control.specs.laws.Shown.{ShowsBudget}
use Rattle.mcs_system.specs.System.{System, thread_part}
use Rattle.mcs_core.specs.declared.standing.Chosen.{Chosen}
use Rattle.mcs_core.specs.Views.{using_of}
use Rattle.mcs_laws.specs.Histories.{home_before, context_before}
use Rattle.mcs_laws.specs.InForce.{config_in_force}

module _ (system : System) where
  -- before moment t the thread that is bound to the context runs on the context's core
  pub record ItsThreadRuns (context t : ℕ) : Type 0 where
    pub chosen : Chosen
    pub runs : (home_before system context t).running ≡ Some chosen
    pub bound : (thread_part system chosen.thread).context ≡ context

  -- the view shows the whole budget in force before moment t, and no ticks in use unless the
  -- context's thread runs
  pub record IsShown (context t : ℕ) (view : ContextView) : Type 0 where
    pub number : view.context ≡ context
    pub budget : ShowsBudget (config_in_force system context t) view
    pub idle : ¬ ItsThreadRuns context t → view.using ≡ 0

  -- the view of a context before moment t
  abbrev pub view_before : ℕ → ℕ → ContextView
  view_before context t =
      view_of context (using_of system context (home_before system context t).running) (context_before system context t)

  abbrev pub ContextsAreShown : Type 0
  ContextsAreShown = (context t : ℕ) → context < length system.contexts → IsShown context t (view_before context t)
