-- The holder of a server: no thread, or one.
use Rattle.std.specs.Prelude.{◌≡◌, ℕ, ◌<◌, Bool, true, false, ◌==◌, ◌&&◌, not, length, Option, Some, None}
use Rattle.std.specs.List.{slice_get}
use Rattle.mcs_script.specs.declared.item.Item.TheVariants.{Enter}
use Rattle.mcs_system.specs.System.{System, thread_part, note_part, is_server}
use Rattle.mcs_core.specs.declared.standing.Standing.{Standing}
use Rattle.mcs_core.specs.declared.standing.Standing.TheVariants.{Done}
use Rattle.mcs_core.specs.declared.standing.Thread.{Thread}
use Rattle.mcs_core.specs.Core.{Core, thread_of, note_of}
use Rattle.mcs_core.specs.Clock.{world, core_at}
use Rattle.mcs_server_laws.specs.Nesting.{is_in, inside}

abbrev pub is_done : Standing → Bool
is_done Done = true
is_done _ = false

-- for a server with this holder, or none: whether a thread has it, and its word
abbrev pub has : Option ℕ → ℕ → Bool
has None thread = false
has (Some holder) thread = holder == thread

abbrev pub word_of : Option ℕ → ℕ
word_of None = 1
word_of (Some holder) = 0

module _ (system : System) where
  -- whether a thread is in a server: it is not done, and its place is after the item that enters
  -- the server, up to the one that leaves it
  abbrev pub is_inside : ℕ → ℕ → Thread → Bool
  is_inside server thread state =
      not (is_done state.standing) && is_in server (inside state.place.item (thread_part system thread).script)

  -- the server is free, with the word 1, and no thread is in it; or this thread has it, the word is
  -- 0, and no other thread is in it
  pub record IsHeldBy (server : ℕ) (holder : Option ℕ) (core : Core) : Type 0 where
    pub word : (note_of core server).word ≡ word_of holder
    pub inside : (thread : ℕ) → is_inside server thread (thread_of core thread) ≡ has holder thread

  abbrev pub home_of : ℕ → ℕ → Core
  home_of server t = core_at system (world system t) (note_part system server).core

  -- at each moment each server has at most one holder
  abbrev pub ServersExclude : Type 0
  ServersExclude =
      (server t : ℕ) → server < length system.notes → is_server system server ≡ true →
      (holder : Option ℕ) × IsHeldBy server holder (home_of server t)

  -- no thread enters a server that it is in
  abbrev pub NoneEntersTwice : Type 0
  NoneEntersTwice =
      (thread item server priority : ℕ) → slice_get (thread_part system thread).script item ≡ Some (Enter server priority) →
      is_in server (inside item (thread_part system thread).script) ≡ false
