-- The state of one core.
use Rattle.std.specs.Prelude.{ℕ, ◌==◌, ◌+◌, if◌then◌else◌, List, [], ◌∷◌, ◌++◌, map, get_or, set, Option, Some, None}
use Rattle.mcs_ticks.specs.declared.queue.Queued.{Queued}
use Rattle.mcs_control.specs.Context.{Context, new_context}
use Rattle.mcs_notify.specs.Note.{Note, quiet_note}
use Rattle.mcs_script.specs.Script.{first_place}
use Rattle.mcs_core.specs.declared.standing.Standing.{Standing}
use Rattle.mcs_core.specs.declared.standing.Standing.TheVariants.{Pending, Elsewhere}
use Rattle.mcs_core.specs.declared.standing.Thread.{Thread}
use Rattle.mcs_core.specs.declared.standing.Chosen.{Chosen}
use Rattle.mcs_release.specs.declared.dated.Dated.{Dated}
use Rattle.mcs_system.specs.declared.part.ContextPart.{ContextPart}
use Rattle.mcs_system.specs.declared.part.NotePart.{NotePart}
use Rattle.mcs_system.specs.declared.part.ThreadPart.{ThreadPart}
use Rattle.mcs_core.specs.Contexts.{held}
use Rattle.mcs_system.specs.System.{System, core_of, start_of}

-- The ready threads are as a discipline keeps them: in one list in order of entering, as on the
-- clock, or by priority, as in the state of a core. Threads, contexts and notifications of other
-- cores keep their places in the lists.
pub record Core : Type 0 where
  pub running : Option Chosen
  pub threads : List Thread
  pub ready : List Queued
  pub releases : List Dated
  pub contexts : List (Option Context)
  pub notes : List Note

abbrev pub no_state : Thread
no_state = record { standing = Elsewhere; place = record { round = 0; item = 0; left = 0; word = 0; priority = 0 }; since = 0 }

abbrev pub thread_of : Core → ℕ → Thread
thread_of core thread = get_or core.threads thread no_state

abbrev pub context_of : Core → ℕ → Context
context_of core context = held context core.contexts

abbrev pub note_of : Core → ℕ → Note
note_of core note = get_or core.notes note quiet_note

abbrev pub with_thread : ℕ → Thread → Core → Core
with_thread thread state core = record core { threads = set core.threads thread state }

abbrev pub with_context : ℕ → Context → Core → Core
with_context context state core = record core { contexts = set core.contexts context (Some state) }

abbrev pub with_note : ℕ → Note → Core → Core
with_note note state core = record core { notes = set core.notes note state }

-- the standing of the thread is set
abbrev pub stands : ℕ → Standing → Core → Core
stands thread standing core = with_thread thread (record (thread_of core thread) { standing = standing }) core

-- the thread is in the release queue with this date
abbrev pub pends : ℕ → ℕ → Core → Core
pends thread date core =
    let core = stands thread Pending core in
    record core { releases = core.releases ++ record { thread = thread; date = date } ∷ [] }

-- the running thread leaves the core
abbrev pub off : Core → Core
off core = record core { running = None }

-- at first each thread of the core is pending, with its start as date
abbrev pub opening_thread : System → ℕ → ThreadPart → Thread
opening_thread system c thread =
    record {
      standing = if core_of system thread == c then Pending else Elsewhere;
      place = first_place system.call thread.priority thread.script;
      since = thread.start;
    }

abbrev pub opening_releases : System → ℕ → ℕ → List ThreadPart → List Dated
opening_releases system c number [] = []
opening_releases system c number (thread ∷ threads) =
    let others = opening_releases system c (number + 1) threads in
    if core_of system thread == c then record { thread = number; date = thread.start } ∷ others else others

abbrev pub opening_contexts : System → ℕ → ℕ → List ContextPart → List (Option Context)
opening_contexts system c number [] = []
opening_contexts system c number (context ∷ contexts) =
    let others = opening_contexts system c (number + 1) contexts in
    (if context.core == c then Some (new_context context.config context.mode (start_of system.threads number)) else None) ∷ others

-- a notification holds its first word
abbrev pub opening_note : NotePart → Note
opening_note note = record { word = note.word; waiters = [] }

abbrev pub opening_core : System → ℕ → Core
opening_core system c =
    record {
      running = None;
      threads = map (opening_thread system c) system.threads;
      ready = [];
      releases = opening_releases system c 0 system.threads;
      contexts = opening_contexts system c 0 system.contexts;
      notes = map opening_note system.notes;
    }
