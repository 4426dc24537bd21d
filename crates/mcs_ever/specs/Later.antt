-- A core later: its state, the rows of its turns, the signals under way and its sources' next
-- dates, each later by the same number of ticks. Dates that no turn compares with now may lag: the
-- dates of a context, and the beginning of a thread's round. A thread with no last round may have
-- ended some rounds more.
use Rattle.std.specs.Prelude.{◌≡◌, ℕ, zero, suc, ◌+◌, ◌-◌, ◌^◌, ◌≤◌, ◌⊎◌, min, List, [], ◌∷◌, map, Option, Some, None, option_map}
use Rattle.mcs_control.specs.declared.config.Mode.TheVariants.{Sporadic}
use Rattle.mcs_control.specs.Context.{Context, Budget}
use Rattle.mcs_control.specs.Context.Budget.{Dates, Slice}
use Rattle.mcs_ticks.specs.declared.row.What.{What}
use Rattle.mcs_ticks.specs.declared.row.What.TheVariants as row
use Rattle.mcs_script.specs.declared.place.Place.{Place}
use Rattle.mcs_release.specs.declared.dated.Dated.{Dated}
use Rattle.mcs_mail.specs.declared.mail.Mail.{Mail}
use Rattle.mcs_system.specs.System.{System, thread_part, context_part}
use Rattle.mcs_core.specs.declared.standing.Thread.{Thread}
use Rattle.mcs_core.specs.Core.{Core}
use Rattle.mcs_core.specs.declared.alarm.Alarm.{Alarm}

-- how much later a core is: its releases and its signals, the dates of each context, the beginning
-- of each thread's round, and how many rounds more each thread has ended
pub record Shift : Type 0 where
  pub by : ℕ
  pub contexts : ℕ → ℕ
  pub threads : ℕ → ℕ
  pub rounds : ℕ → ℕ

abbrev pub later_dates : ℕ → List ℕ → List ℕ
later_dates by dates = map (λ date. date + by) dates

abbrev pub later_budget : ℕ → Budget → Budget
later_budget by (Dates dates) = Dates (later_dates by dates)
later_budget by (Slice left) = Slice left

abbrev pub later_context : ℕ → Context → Context
later_context by context = record context { budget = later_budget by context.budget }

-- the contexts from this number on, each by its own number of ticks
abbrev pub later_contexts : (ℕ → ℕ) → ℕ → List (Option Context) → List (Option Context)
later_contexts by n [] = []
later_contexts by n (context ∷ contexts) = option_map (later_context (by n)) context ∷ later_contexts by (n + 1) contexts

-- the number of a round, n rounds later: 64 bits hold at most 2^64 - 1, and it stays there
abbrev pub more_rounds : ℕ → ℕ → ℕ
more_rounds zero round = round
more_rounds (suc n) round = min (round + suc n) (2 ^ 64 - 1)

abbrev pub later_place : ℕ → Place → Place
later_place rounds place = record place { round = more_rounds rounds place.round }

abbrev pub later_thread : ℕ → ℕ → Thread → Thread
later_thread by rounds thread = record thread { place = later_place rounds thread.place; since = thread.since + by }

-- the threads from this number on
abbrev pub later_threads : (ℕ → ℕ) → (ℕ → ℕ) → ℕ → List Thread → List Thread
later_threads by rounds n [] = []
later_threads by rounds n (thread ∷ threads) = later_thread (by n) (rounds n) thread ∷ later_threads by rounds (n + 1) threads

abbrev pub later_dated : ℕ → Dated → Dated
later_dated by dated = record { thread = dated.thread; date = dated.date + by }

abbrev pub later_mail : ℕ → Mail → Mail
later_mail by mail = record mail { arrives = mail.arrives + by; made = mail.made + by }

-- a source's next date, with as many dates left after it
abbrev pub later_alarm : ℕ → Alarm → Alarm
later_alarm by alarm = record alarm { date = option_map (λ date. date + by) alarm.date }

module _ (shift : Shift) where
  -- the running thread, the queues' orders, the words and their waiters are the same
  abbrev pub later_core : Core → Core
  later_core core =
      record core {
        threads = later_threads shift.threads shift.rounds 0 core.threads;
        releases = map (later_dated shift.by) core.releases;
        contexts = later_contexts shift.contexts 0 core.contexts;
      }

  -- a row of a turn: its one date is that until which a thread waits for its budget
  abbrev pub later_what : What → What
  later_what (row.Stop thread why charged until) = row.Stop thread why charged (option_map (λ date. date + shift.by) until)
  later_what (row.Round thread number response) = row.Round thread (more_rounds (shift.rounds thread) number) response
  later_what (row.Release thread) = row.Release thread
  later_what (row.Run thread) = row.Run thread
  later_what (row.Signal thread note badge) = row.Signal thread note badge
  later_what (row.Arrive note badge maker) = row.Arrive note badge maker
  later_what (row.Wake thread note word until) = row.Wake thread note word (option_map (λ date. date + shift.by) until)
  later_what (row.Hold note word) = row.Hold note word
  later_what (row.Got thread note word) = row.Got thread note word
  later_what (row.Order context) = row.Order context
  later_what (row.Interrupt source note badge) = row.Interrupt source note badge

module _ (system : System) (shift : Shift) where
  -- no context is later than the core, and only a thread with no last round has ended more rounds
  pub record IsShift : Type 0 where
    pub lags : (context : ℕ) → shift.contexts context ≤ shift.by
    pub endless : (thread : ℕ) → (shift.rounds thread ≡ 0) ⊎ ((thread_part system thread).rounds ≡ 0)

  -- the dates of the thread's context are as much later as the core, and so is the beginning of its
  -- round
  abbrev pub ContextKeepsUp : ℕ → Type 0
  ContextKeepsUp thread = shift.contexts (thread_part system thread).context ≡ shift.by

  abbrev pub RoundKeepsUp : ℕ → Type 0
  RoundKeepsUp thread = shift.threads thread ≡ shift.by

  abbrev pub IsSporadic : ℕ → Type 0
  IsSporadic thread = (context_part system (thread_part system thread).context).mode ≡ Sporadic

  -- the dates that the core compares with now, if it emits this row, have not lagged. A wake moves
  -- the dates of a sporadic context, and a choice those of a context in bandwidth mode; a stop
  -- checks whether the date has come; a round is timed when it ends, and may begin when a word is
  -- given
  abbrev pub KeepsUp : What → Type 0
  KeepsUp (row.Wake thread note word until) = ContextKeepsUp thread × RoundKeepsUp thread
  KeepsUp (row.Run thread) = ContextKeepsUp thread ⊎ IsSporadic thread
  KeepsUp (row.Stop thread why charged (Some until)) = ContextKeepsUp thread
  KeepsUp (row.Stop thread why charged None) = Unit {0}
  KeepsUp (row.Round thread number response) = RoundKeepsUp thread
  KeepsUp (row.Got thread note word) = RoundKeepsUp thread
  KeepsUp (row.Release thread) = Unit {0}
  KeepsUp (row.Signal thread note badge) = Unit {0}
  KeepsUp (row.Arrive note badge maker) = Unit {0}
  KeepsUp (row.Hold note word) = Unit {0}
  KeepsUp (row.Order context) = Unit {0}
  KeepsUp (row.Interrupt source note badge) = Unit {0}
