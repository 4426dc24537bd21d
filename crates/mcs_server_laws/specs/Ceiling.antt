-- Priority ceilings: if each server is called from below its priority, no thread that calls it runs
-- while its holder is ready.
use Rattle.std.specs.Prelude.{◌≡◌, ◌≢◌, ℕ, ◌<◌, ◌≤◌, List, [], ◌∷◌, length, true, Some}
use Rattle.std.specs.List.{slice_get, AllByRecursion}
use Rattle.mcs_ticks.specs.declared.row.What.{What}
use Rattle.mcs_ticks.specs.declared.row.What.TheVariants as row
use Rattle.mcs_ticks.specs.declared.row.Why.TheVariants as why
use Rattle.mcs_script.specs.declared.item.Item.{Item}
use Rattle.mcs_script.specs.declared.item.Item.TheVariants.{Enter, Leave}
use Rattle.mcs_script.specs.declared.place.Place.{Place}
use Rattle.mcs_system.specs.System.{System, thread_part, is_server}
use Rattle.mcs_core.specs.declared.standing.Chosen.{Chosen}
use Rattle.mcs_core.specs.Core.{thread_of}
use Rattle.mcs_core.specs.Places.{times_queued}
use Rattle.mcs_core.specs.Clock.{turn_of}
use Rattle.mcs_server_laws.specs.Nesting.{without_last, inside}
use Rattle.mcs_server_laws.specs.Exclusion.{IsHeldBy, home_of}

-- the priority of a thread in these servers: that of the server that it entered last, or `own` if
-- it is in no server
abbrev pub priority_in : (ℕ → ℕ) → ℕ → List ℕ → ℕ
priority_in ceiling own [] = own
priority_in ceiling own (last ∷ others) = ceiling last

module _ (system : System) (ceiling : ℕ → ℕ) where
  abbrev pub script_of : ℕ → List Item
  script_of thread = (thread_part system thread).script

  abbrev pub priority_of : ℕ → List ℕ → ℕ
  priority_of thread servers = priority_in ceiling (thread_part system thread).priority servers

  -- each server is entered with its own priority, and a thread that leaves it gets the previous one
  -- back
  pub record HavePriorities : Type 0 where
    pub given : (thread item server priority : ℕ) → slice_get (script_of thread) item ≡ Some (Enter server priority) → priority ≡ ceiling server
    pub back : (thread item server priority : ℕ) → slice_get (script_of thread) item ≡ Some (Leave server priority) →
        priority ≡ priority_of thread (without_last (inside item (script_of thread)))

  -- each server is entered at a priority below its own
  pub record AreCeilings : Type 0 where
    pub above : (thread item server priority : ℕ) → slice_get (script_of thread) item ≡ Some (Enter server priority) →
        priority_of thread (inside item (script_of thread)) < ceiling server
    pub priorities : HavePriorities

  -- before moment t the thread `holder` has the server and is ready, and another one runs
  pub record IsReadyHolder (server t holder : ℕ) (chosen : Chosen) : Type 0 where
    pub known : server < length system.notes
    pub is : is_server system server ≡ true
    pub held : IsHeldBy system server (Some holder) (home_of system server t)
    pub ready : 1 ≤ times_queued holder (home_of system server t).ready
    pub runs : (home_of system server t).running ≡ Some chosen

  abbrev pub place_of : ℕ → ℕ → Chosen → Place
  place_of server t chosen = (thread_of (home_of system server t) chosen.thread).place

  -- the running thread has at least the server's priority
  abbrev pub RunsAbove : Type 0
  RunsAbove = (server t holder : ℕ) (chosen : Chosen) → IsReadyHolder server t holder chosen → ceiling server ≤ (place_of server t chosen).priority

  -- the running thread is not about to enter the server: no thread calls a server with a ready
  -- holder
  abbrev pub NoneCalls : Type 0
  NoneCalls =
      (server t holder priority : ℕ) (chosen : Chosen) → IsReadyHolder server t holder chosen →
      ¬ (slice_get (script_of chosen.thread) (place_of server t chosen).item ≡ Some (Enter server priority))

  -- the running thread is in some server, if it calls this one anywhere
  abbrev pub NoneOvertakes : Type 0
  NoneOvertakes =
      (server t holder item priority : ℕ) (chosen : Chosen) → IsReadyHolder server t holder chosen →
      inside (place_of server t chosen).item (script_of chosen.thread) ≡ [] →
      ¬ (slice_get (script_of chosen.thread) item ≡ Some (Enter server priority))

  -- the thread runs, and is about to enter a server that another thread has, which is not ready
  pub record IsBehind (thread t : ℕ) : Type 0 where
    pub server : ℕ
    pub priority : ℕ
    pub holder : ℕ
    pub using : ℕ
    pub other : holder ≢ thread
    pub held : IsHeldBy system server (Some holder) (home_of system server t)
    pub not_ready : times_queued holder (home_of system server t).ready ≡ 0
    pub runs : (home_of system server t).running ≡ Some (record { thread = thread; using = using })
    pub enters : slice_get (script_of thread) (thread_of (home_of system server t) thread).place.item ≡ Some (Enter server priority)

  -- each stop with `call` is of such a thread, before the turn
  abbrev pub TellsCall : ℕ → What → Type 0
  TellsCall t (row.Stop thread why.Call charged until) = IsBehind thread t
  TellsCall t _ = Unit {0}

  abbrev pub CallsWait : Type 0
  CallsWait = (c t : ℕ) → c < system.cores → AllByRecursion (TellsCall t) (turn_of system c t).rows
