-- The views of a core's contexts.
use Rattle.std.specs.Prelude.{ℕ, suc, ◌==◌, if◌then◌else◌, List, [], ◌∷◌, ◌++◌, Option, Some, None}
use Rattle.mcs_control.specs.declared.view.ContextView.{ContextView}
use Rattle.mcs_control.specs.Context.{Context, view_of}
use Rattle.mcs_system.specs.System.{System, thread_part}
use Rattle.mcs_core.specs.Core.{Core}
use Rattle.mcs_core.specs.declared.standing.Chosen.{Chosen}

module _ (system : System) where
  -- the ticks in use of a context: those of the running thread, if it is bound to it
  abbrev pub using_of : ℕ → Option Chosen → ℕ
  using_of context None = 0
  using_of context (Some chosen) = if (thread_part system chosen.thread).context == context then chosen.using else 0

  abbrev pub own_view : ℕ → Option Chosen → Option Context → List ContextView
  own_view number running None = []
  own_view number running (Some context) = view_of number (using_of number running) context ∷ []

  abbrev pub views_from : ℕ → Option Chosen → List (Option Context) → List ContextView
  views_from number running [] = []
  views_from number running (context ∷ contexts) =
      own_view number running context ++ views_from (suc number) running contexts

  -- the views of the core's contexts, in file order
  abbrev pub views_of : Core → List ContextView
  views_of core = views_from 0 core.running core.contexts
