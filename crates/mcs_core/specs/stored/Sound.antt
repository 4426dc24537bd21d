-- The invariant of a core for its system: the place of each thread, and the possible charges of its
-- context.
use Rattle.std.specs.Prelude.{◌≡◌, ℕ, ◌+◌, ◌^◌, ◌<◌, ◌≤◌, Bool, true, false, ◌==◌, if◌then◌else◌, List, [], ◌∷◌, length, Option, Some, None, IsOk}
use Rattle.std.specs.List.{AllByRecursion}
use Rattle.mcs_control.specs.laws.Contexts.{IsWhole}
use Rattle.mcs_control.specs.Context.{Context, head_amount, head_moment}
use Rattle.mcs_control.specs.Control.{checked, kind_of}
use Rattle.mcs_notify.specs.Note.{posted, after_post}
use Rattle.mcs_notify.specs.declared.posted.Posted.TheVariants.{Woke}
use Rattle.mcs_release.specs.declared.dated.Dated.{Dated}
use Rattle.mcs_core.specs.declared.standing.Chosen.{Chosen}
use Rattle.mcs_core.specs.declared.standing.Standing.{Standing}
use Rattle.mcs_core.specs.declared.standing.Standing.TheVariants.{Blocked, Pending, Ready, Running, Done, Elsewhere}
use Rattle.mcs_core.specs.Contexts.{is_own}
use Rattle.mcs_system.specs.System.{System, context_part, thread_part}
use Rattle.mcs_core.specs.Places.{times_queued, times_dated, times_waiting}
use Rattle.mcs_core.specs.Core.{Core, thread_of, context_of, note_of, with_note}
use Rattle.mcs_core.specs.Turn.{its_context}

-- how often a thread with this standing is in the ready queue, in the release queue, and among the
-- waiters
abbrev pub times_ready : Standing → ℕ
times_ready Ready = 1
times_ready Blocked = 0
times_ready Pending = 0
times_ready Running = 0
times_ready Done = 0
times_ready Elsewhere = 0

abbrev pub times_pending : Standing → ℕ
times_pending Pending = 1
times_pending Blocked = 0
times_pending Ready = 0
times_pending Running = 0
times_pending Done = 0
times_pending Elsewhere = 0

abbrev pub times_blocked : Standing → ℕ
times_blocked Blocked = 1
times_blocked Pending = 0
times_blocked Ready = 0
times_blocked Running = 0
times_blocked Done = 0
times_blocked Elsewhere = 0

-- whether a thread with this standing belongs to the core
abbrev pub is_here : Standing → Bool
is_here Elsewhere = false
is_here Blocked = true
is_here Pending = true
is_here Ready = true
is_here Running = true
is_here Done = true

-- whether a thread with this standing runs or may be chosen
abbrev pub may_run : Standing → Bool
may_run Ready = true
may_run Running = true
may_run Blocked = false
may_run Pending = false
may_run Done = false
may_run Elsewhere = false

-- a thread on its way from one place to another, and how it counts meanwhile
pub record Loose : Type 0 where
  pub thread : ℕ
  pub standing : Standing

abbrev pub standing_of : Option Loose → ℕ → Core → Standing
standing_of None x core = (thread_of core x).standing
standing_of (Some loose) x core = if loose.thread == x then loose.standing else (thread_of core x).standing

-- whether the context is one of the core's
abbrev pub has_context : ℕ → Core → Bool
has_context context core = is_own context core.contexts

-- the phase of the core in a turn: between two turns, in the end of a tick, or past it
pub data Phase : Type 0 where
  Between : Phase
  InTick : Phase
  PastTick : Phase

-- the minimum of ticks that the running thread has used
abbrev pub least_used : Phase → ℕ
least_used Between = 0
least_used InTick = 1
least_used PastTick = 1

-- whether it may just have exhausted its head
abbrev pub slack : Phase → ℕ
slack Between = 0
slack InTick = 1
slack PastTick = 0

module _ (system : System) where
  -- a thread of the core: its item is one of its script, and its context one of the core's
  pub record IsPlaced (x : ℕ) (core : Core) : Type 0 where
    pub known : x < length system.threads
    pub item : (thread_of core x).place.item < length (thread_part system x).script
    pub bound : (thread_part system x).context < length system.contexts
    pub has : has_context (thread_part system x).context core ≡ true

  -- the head of the thread's context has come, or comes at a moment of a run
  abbrev pub IsEarly : ℕ → Core → Type 0
  IsEarly x core = head_moment (its_context system x core) ≤ 2 ^ 40

  -- a thread that is released at a moment of a run finds its head come
  abbrev pub AreEarly : Core → List Dated → Type 0
  AreEarly core [] = Unit {0}
  AreEarly core (dated ∷ others) = (dated.date ≤ 2 ^ 40 → IsEarly dated.thread core) × AreEarly core others

  -- a context of the core: the configuration in force passed its check, is of the context's first
  -- kind, and the budget is whole under it
  pub record IsContextOf (k : ℕ) (context : Context) : Type 0 where
    pub accepted : IsOk (checked system.min_budget context.config)
    pub same_kind : kind_of context.config ≡ kind_of (context_part system k).config
    pub kept : IsWhole context.config context.budget

  -- the running thread: its head has come, and it has used at most the head
  pub record IsRunning (phase : Phase) (chosen : Chosen) (core : Core) : Type 0 where
    pub stands : (thread_of core chosen.thread).standing ≡ Running
    pub used : least_used phase ≤ chosen.using
    pub unspent : chosen.using < head_amount (its_context system chosen.thread core) + slack phase
    pub early : IsEarly chosen.thread core

  abbrev pub RunsRight : Phase → Option Chosen → Core → Type 0
  RunsRight phase None core = Unit {0}
  RunsRight phase (Some chosen) core = IsRunning phase chosen core

  -- a thread of the core that is in neither queue
  pub record IsFree (x : ℕ) (core : Core) : Type 0 where
    pub known : x < length core.threads
    pub placed : IsPlaced x core
    pub not_ready : times_queued x core.ready ≡ 0
    pub not_pending : times_dated x core.releases ≡ 0

  -- such a thread, whose context may be charged this many ticks
  pub record CanStop (x ticks : ℕ) (core : Core) : Type 0 where
    pub free : IsFree x core
    pub some : 1 ≤ ticks
    pub in_head : ticks ≤ head_amount (its_context system x core)
    pub early : IsEarly x core

  -- a thread that a post wakes is free when it has left the waiters
  abbrev pub WakesFree : ℕ → ℕ → Core → Type 0
  WakesFree note badge core =
      (x word : ℕ) → posted badge (note_of core note) ≡ Woke x word →
      IsFree x (with_note note (after_post (Woke x word) (note_of core note)) core)

-- core `number` of a system, with only dates of this moment or later in its release queue
module _ (system : System) (number from : ℕ) where
  -- a core in this phase of a turn, with at most one thread on its way
  pub record IsSound (phase : Phase) (loose : Option Loose) (core : Core) : Type 0 where
    pub threads : length core.threads ≡ length system.threads
    pub contexts : length core.contexts ≡ length system.contexts
    pub notes : length core.notes ≡ length system.notes
    pub ready : (x : ℕ) → times_queued x core.ready ≡ times_ready (standing_of loose x core)
    pub pending : (x : ℕ) → times_dated x core.releases ≡ times_pending (standing_of loose x core)
    pub blocked : (x : ℕ) → times_waiting x core.notes ≡ times_blocked (standing_of loose x core)
    pub here : (x : ℕ) → is_here (standing_of loose x core) ≡ true → IsPlaced system x core
    pub early : (x : ℕ) → may_run (standing_of loose x core) ≡ true → IsEarly system x core
    pub dates : AreEarly system core core.releases
    pub running : RunsRight system phase core.running core
    pub budgets : (k : ℕ) → has_context k core ≡ true → IsContextOf system k (context_of core k)
    pub own : (k : ℕ) → k < length system.contexts → has_context k core ≡ ((context_part system k).core == number)
    pub later : AllByRecursion (λ dated. from ≤ dated.date) core.releases
