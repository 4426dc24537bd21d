-- The invariant of all cores between two turns: each has, at its clock, the state of the global
-- clock, and it only counts ticks until its next busy time. So its clock may lag. A busy time up to
-- the horizon is one at which it does more.
use Rattle.std.specs.Prelude.{◌≡◌, ℕ, ◌+◌, ◌-◌, ◌<◌, ◌≤◌, ◌^◌, min, false, List, [], ◌∷◌, filter, length, slice_index, slice_index_or}
use Rattle.std.specs.Arc.{arc_value}
use Rattle.mcs_mail.specs.declared.mail.Mail.{Mail}
use Rattle.mcs_mail.specs.Box.{Content}
use Rattle.mcs_system.specs.System.{System}
use Rattle.mcs_system.specs.WellFormed.{IsWellFormed}
use Rattle.mcs_core.specs.Clock.{world, core_at, shown}
use Rattle.mcs_core.specs.Core.{Core}
use Rattle.mcs_core.specs.Quiet.{AreQuiet}
use Rattle.mcs_core.specs.State.{State}
use Rattle.mcs_stretch.specs.Inbox.{is_home}
use Rattle.mcs_window.specs.stored.Cores.{AreHere}
use Rattle.mcs_step.specs.Steps.{Steps}
use Rattle.mcs_step.specs.stored.Places.{IsFirst}
use Rattle.mcs_step.specs.declared.in_step.InStep.TheInside.{Inside}

-- the clock, the state, the mail and the next busy time of each core; there are 64 such times
pub record Cores : Type 0 where
  pub clocks : List ℕ
  pub states : List State
  pub boxes : List Content
  pub next : List ℕ

-- a core with this mail only counts ticks from its clock to before `next`
abbrev pub IsQuietTo : System → State → List Mail → ℕ → Type 0
IsQuietTo system state box next =
    (core : Core) → state.core ≡ shown core → AreQuiet system state.number state.clock box core (next - state.clock)

-- and it does more at `next`
abbrev pub IsBusyAt : System → State → List Mail → ℕ → Type 0
IsBusyAt system state box next =
    (core : Core) → state.core ≡ shown core →
    ¬ AreQuiet system state.number state.clock box core (next + 1 - state.clock)

-- the clocks and the next busy times at a place: the cores below number `core` have taken their
-- turn at the moment, the others have not, and turns that only count a tick may be left out
pub record AreAtPlace (many moment core : ℕ) (clocks next : List ℕ) : Type 0 where
  pub done : (c : ℕ) → c < core → (slice_index clocks c ≤ moment + 1) × (moment + 1 ≤ slice_index next c)
  pub left : (c : ℕ) → core ≤ c → c < many → (slice_index clocks c ≤ moment) × (moment ≤ slice_index next c)

pub record AreInStep (system : System) (horizon moment core : ℕ) (cores : Cores) : Type 0 where
  pub clocks_of : length cores.clocks ≡ system.cores
  pub states_of : length cores.states ≡ system.cores
  pub boxes_of : length cores.boxes ≡ system.cores
  pub next_of : length cores.next ≡ 64
  pub few : system.cores ≤ 64
  pub known : core ≤ system.cores
  pub in_time : moment ≤ horizon + 1
  pub over : moment ≡ horizon + 1 → core ≡ 0
  pub here : AreHere system cores.clocks cores.states cores.boxes
  pub quiet : (c : ℕ) (box : Content) → c < system.cores →
      AreQuiet system c (slice_index cores.clocks c) (slice_index_or cores.boxes c box).mails
      (core_at system (world system (slice_index cores.clocks c)) c)
      (slice_index cores.next c - slice_index cores.clocks c)
  pub busy : (c : ℕ) (box : Content) → c < system.cores → slice_index cores.next c ≤ horizon →
      ¬ AreQuiet system c (slice_index cores.clocks c) (slice_index_or cores.boxes c box).mails
      (core_at system (world system (slice_index cores.clocks c)) c)
      (slice_index cores.next c + 1 - slice_index cores.clocks c)
  pub ends : (c : ℕ) → c < system.cores → slice_index cores.next c ≤ horizon + 1
  pub rest : (c : ℕ) → system.cores ≤ c → c < 64 → slice_index cores.next c ≡ horizon + 1
  pub place : AreAtPlace system.cores moment core cores.clocks cores.next

-- the time of the soonest of these arrivals, or `next` if that is sooner
abbrev pub lowered : List Mail → ℕ → ℕ
lowered [] next = next
lowered (mail ∷ mails) next = lowered mails (min next mail.arrives)

-- the next busy time of each core is lowered to the first arrival of a signal for it
pub record AreLowered (system : System) (signals : List Mail) (before after : List ℕ) : Type 0 where
  pub many : length after ≡ length before
  pub each : (c : ℕ) → c < length before
      → slice_index after c ≡ lowered (filter (is_home system c) signals) (slice_index before c)
  pub rest : (c : ℕ) → system.cores ≤ c → slice_index after c ≡ slice_index before c

abbrev pub cores_of : Inside → Cores
cores_of a =
    record { clocks = a.clocks.items; states = a.states.items; boxes = a.boxes.items; next = a.next }

abbrev pub steps_of : Inside → Steps
steps_of a =
    record {
      system = arc_value a.system;
      horizon = a.horizon;
      moment = a.place.moment;
      core = a.place.core;
      clocks = a.clocks.items;
      failed = a.failed;
    }

pub record IsKept (a : Inside) : Type 0 where
  pub horizon : a.horizon ≤ 2 ^ 40
  pub well_formed : IsWellFormed (arc_value a.system)
  pub in_step : a.failed ≡ false
      → AreInStep (arc_value a.system) a.horizon a.place.moment a.place.core (cores_of a)
  pub first : a.failed ≡ false → IsFirst a.next a.first
