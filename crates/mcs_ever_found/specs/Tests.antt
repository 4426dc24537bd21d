-- The tests of watches and flags, thread by thread and notification by notification.
use Rattle.std.specs.Prelude.{◌≡◌, ℕ, ◌+◌, ◌^◌, ◌<◌, ◌≤◌, ◌⊎◌, Bool, true, false, length, get_or}
use Rattle.mcs_system.specs.System.{System, thread_part, note_part, core_of, is_server}
use Rattle.mcs_verdict.specs.Later.{IsLaterThread, IsSameWord, IsLaterWord}
use Rattle.mcs_verdict.specs.Watch.{Watch}
use Rattle.mcs_ever_found.specs.Doings.{Doings}

module _ (by from : ℕ) (before after : Watch) (doings : Doings) where
  -- the thread has started; its account is later, or no round of it ended
  pub record ThreadRecurs (system : System) (thread : ℕ) : Type 0 where
    pub started : (thread_part system thread).start ≤ from
    pub later : IsLaterThread by before after thread ⊎ (get_or doings.ended thread false ≡ false)

  -- the word is the same, and it was set later, is not taken, or is a server's
  pub record WordRecurs (system : System) (note : ℕ) : Type 0 where
    pub same : IsSameWord before after note
    pub taken : IsLaterWord by before after note ⊎ ((get_or doings.taken note false ≡ false) ⊎ (is_server system note ≡ true))

module _ (system : System) (group : ℕ → Bool) (by from : ℕ) (before after : Watch) (doings : Doings) where
  -- those of the first n threads, and of the first n notifications, that are on cores of the group
  abbrev pub ThreadsRecur : ℕ → Type 0
  ThreadsRecur n =
      (thread : ℕ) → thread < n → group (core_of system (thread_part system thread)) ≡ true →
      ThreadRecurs by from before after doings system thread

  abbrev pub WordsRecur : ℕ → Type 0
  WordsRecur n = (note : ℕ) → note < n → group (note_part system note).core ≡ true → WordRecurs by from before after doings system note

  -- all threads and notifications of the group, up to a moment that is early enough
  pub record AllRecur : Type 0 where
    pub near : from + by ≤ 2 ^ 41
    pub threads : ThreadsRecur (length system.threads)
    pub words : WordsRecur (length system.notes)
