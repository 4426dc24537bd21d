-- Rounds that never end, threads that are never activated, and words that nobody ever takes, by their
-- findings.
use Rattle.std.proofs.Common.{◌≡◌, ℕ, ◌-◌, Bool, true, false, cond, ◌&&◌, not, List, Option, Some, None, refl, sym, ap, ◌∙◌}
use Rattle.std.specs.Prelude.{◌==◌, nat_le}
use Rattle.mcs_ticks.specs.Capped.{one_more}
use Rattle.mcs_ticks.specs.declared.row.Row.{Row}
use Rattle.mcs_system.specs.System.{System, thread_part}
use Rattle.mcs_verdict.specs.declared.finding.Finding.{Finding}
use Rattle.mcs_verdict.specs.declared.finding.Finding.TheVariants.{Overdue, Untaken, Never}
use Rattle.mcs_verdict.specs.declared.held.Held.{Held}
use Rattle.mcs_verdict.specs.declared.standing.Stood.{Stood}
use Rattle.mcs_verdict.specs.Due.{calls_each, untaken_by, untaken}
use Rattle.mcs_verdict.specs.Misses.{is_reached, first_word, was_activated, overdue_since, overdue, never, first_of, unended}
use Rattle.mcs_verdict.specs.Calls.{first_wait, bits_of}
use Rattle.mcs_verdict.specs.Parts.{free_of, queued_in, parts_in}
use Rattle.mcs_verdict.specs.Rounds.{activated_of, rounds_of}
use Rattle.mcs_verdict.specs.Standing.{standing_at, telling}
use Rattle.mcs_verdict.specs.Stood.{stood_in}
use Rattle.mcs_verdict.specs.Words.{held_of, firsts_of}
use Rattle.mcs_ever_told.specs.Lines.{inactive_told, ever_told, abandoned_told}

-- the thread or the notification of a finding, and its deadline
abbrev about : Option Finding → ℕ
about (Some (Overdue x number age deadline activated queued stood)) = x
about (Some (Untaken note word age deadline set)) = note
about _ = 0

abbrev deadline_in : Option Finding → ℕ
deadline_in (Some (Overdue x number age deadline activated queued stood)) = deadline
deadline_in (Some (Untaken note word age deadline set)) = deadline
deadline_in _ = 0

module _ (system : System) (past : List Row) (horizon thread : ℕ) where
  abbrev deadline : ℕ
  deadline = (thread_part system thread).deadline

  -- an overdue round is one of the thread, whose deadline it has
  abbrev pub IsOfThread : Option Finding → Type 0
  IsOfThread o =
      (x number age d activated queued : ℕ) (stood : Stood) → o ≡ Some (Overdue x number age d activated queued stood) → (x ≡ thread) × (d ≡ deadline)

  -- without a line nothing is overdue
  abbrev pub IsTold : Option Finding → Type 0
  IsTold o = (other : Option Finding) → ever_told thread o other ≡ None → o ≡ None

  -- if the first finding is of a thread that was never activated, the second one is
  abbrev IsSecond : Option Finding → Type 0
  IsSecond o = (other : Option Finding) (x d : ℕ) → first_of o other ≡ Some (Never x d) → other ≡ Some (Never x d)

  at-of : (number age activated queued : ℕ) (stood : Stood) (b : Bool) → IsOfThread (cond b (Some (Overdue thread number age deadline activated queued stood)) None)
  at-of number age activated queued stood true x n a d s q parts e = (sym (ap about e), sym (ap deadline_in e))
  at-of number age activated queued stood false x n a d s q parts e = cc

  at-told : (number age activated queued : ℕ) (stood : Stood) (b : Bool) → IsTold (cond b (Some (Overdue thread number age deadline activated queued stood)) None)
  at-told number age activated queued stood true other e = cc
  at-told number age activated queued stood false other e = refl

  at-second : (number age activated queued : ℕ) (stood : Stood) (b : Bool) → IsSecond (cond b (Some (Overdue thread number age deadline activated queued stood)) None)
  at-second number age activated queued stood true other x d e = cc
  at-second number age activated queued stood false other x d e = e

  -- what holds of an overdue round and of none holds of `overdue`
  module _ (P : Option Finding → Type 0) (none : P None)
      (at : (number age activated queued : ℕ) (stood : Stood) (b : Bool) → P (cond b (Some (Overdue thread number age deadline activated queued stood)) None)) where
    since : (o : Option ℕ) → P (overdue_since system past horizon thread o)
    since None = none
    since (Some activated) =
        at (one_more (rounds_of thread past)) (horizon - activated) activated (queued_in (free_of system thread past) activated)
        (parts_in thread past (free_of system thread past) activated horizon) (is_reached deadline (horizon - activated))

    pub of-overdue : P (overdue system past horizon thread)
    of-overdue = since (activated_of system thread past horizon)

    -- and of it only if a test fails
    pub unless : (b : Bool) → P (cond b None (overdue system past horizon thread))
    unless true = none
    unless false = of-overdue

  none-of : IsOfThread None
  none-of x number age d activated queued stood e = cc

  none-told : IsTold None
  none-told other e = refl

  none-second : IsSecond None
  none-second other x d e = e

  pub overdue-of : (b : Bool) → IsOfThread (cond b None (overdue system past horizon thread))
  overdue-of b = unless IsOfThread none-of at-of b

  pub overdue-told : (b : Bool) → IsTold (cond b None (overdue system past horizon thread))
  overdue-told b = unless IsTold none-told at-told b

  -- whether it was never activated
  abbrev once : Bool
  once =
      was_activated (first_wait (thread_part system thread)) (bits_of (thread_part system thread)) (first_word system thread past)
      (standing_at horizon (telling thread past)) (stood_in thread past 0 horizon)

  at-never : (b : Bool) (x d : ℕ) → cond b (Some (Never thread deadline)) None ≡ Some (Never x d) → cond b (Some (Never thread deadline)) None ≡ Some (Never thread deadline)
  at-never true x d e = refl
  at-never false x d e = cc

  -- a thread whose finding is that it was never activated
  pub never-is : (x d : ℕ) → unended system past horizon thread ≡ Some (Never x d) → never system past horizon thread ≡ Some (Never thread deadline)
  never-is x d e =
      at-never (not (deadline == 0) && not once) x d (of-overdue IsSecond none-second at-second (never system past horizon thread) x d e)

  at-active : (b : Bool) → inactive_told thread (cond b (Some (Never thread deadline)) None) ≡ None → cond b (Some (Never thread deadline)) None ≡ None
  at-active true e = cc
  at-active false e = refl

  -- a thread with neither a line nor an overdue round
  pub never-none : overdue system past horizon thread ≡ None → inactive_told thread (unended system past horizon thread) ≡ None →
      never system past horizon thread ≡ None
  never-none none e =
      at-active (not (deadline == 0) && not once)
      (ap (λ (o : Option Finding). inactive_told thread (first_of o (never system past horizon thread))) (sym none) ∙ e)

module _ (horizon note : ℕ) where
  -- an untaken word is one of the notification, whose deadline it has
  abbrev IsOfNote : Option ℕ → Option Finding → Type 0
  IsOfNote due o = (x word age d set : ℕ) → o ≡ Some (Untaken x word age d set) → (x ≡ note) × (due ≡ Some d)

  word-at : (word age d set : ℕ) (b : Bool) → IsOfNote (Some d) (cond b (Some (Untaken note word age d set)) None)
  word-at word age d set true x w a e s is = (sym (ap about is), ap (λ (f : Option Finding). Some (deadline_in f)) is)
  word-at word age d set false x w a e s is = cc

  word-by : (held : Held) (due : Option ℕ) (called : Bool) → IsOfNote due (untaken_by horizon note held due called)
  word-by held None called = λ x w a e s is. cc
  word-by held (Some d) called = word-at held.word (horizon - held.since) d held.since (not (held.word == 0) && called && nat_le d (horizon - held.since))

  told-at : (word age d set : ℕ) (b : Bool) → abandoned_told note (cond b (Some (Untaken note word age d set)) None) ≡ None →
      cond b (Some (Untaken note word age d set)) None ≡ None
  told-at word age d set true e = cc
  told-at word age d set false e = refl

  told-by : (held : Held) (due : Option ℕ) (called : Bool) → abandoned_told note (untaken_by horizon note held due called) ≡ None →
      untaken_by horizon note held due called ≡ None
  told-by held None called e = refl
  told-by held (Some d) called e =
      told-at held.word (horizon - held.since) d held.since (not (held.word == 0) && called && nat_le d (horizon - held.since)) e

  module _ (system : System) (past : List Row) where
    abbrev held : Held
    held = held_of (firsts_of system) note past

    pub word-of : (b : Bool) → IsOfNote held.due (cond b None (untaken system past horizon note))
    word-of true = λ x word age d set e. cc
    word-of false = word-by held held.due (calls_each note held.word system.threads)

    -- without a line no word is untaken
    pub word-told : (b : Bool) → abandoned_told note (cond b None (untaken system past horizon note)) ≡ None → cond b None (untaken system past horizon note) ≡ None
    word-told true e = refl
    word-told false e = told-by held held.due (calls_each note held.word system.threads) e
