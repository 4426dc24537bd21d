-- The invariant of a desk between its calls. Each core that is not lent has, at its clock, the
-- state of the global clock; the box of each lent core has the signals made for it since.
use Rattle.std.specs.Prelude.{◌≡◌, ◌≢◌, ℕ, ◌+◌, ◌-◌, ◌<◌, ◌≤◌, ◌^◌, false, Bool, Option, Some, None, List, [], map, length, slice_index, slice_index_or, slice_set}
use Rattle.std.specs.Arc.{arc_value}
use Rattle.mcs_mail.specs.declared.mail.Mail.{Mail}
use Rattle.mcs_mail.specs.Box.{Content}
use Rattle.mcs_system.specs.System.{System}
use Rattle.mcs_system.specs.WellFormed.{IsWellFormed}
use Rattle.mcs_core.specs.Quiet.{AreQuietWith, counted_times}
use Rattle.mcs_core.specs.State.{Fits, opening_state}
use Rattle.mcs_ticks.specs.Given.{Given}
use Rattle.mcs_ticks.specs.Queue.{by_priority}
use Rattle.mcs_ticks.specs.declared.row.Row.{Row}
use Rattle.mcs_stretch.specs.Idle.{IsIdle}
use Rattle.mcs_stretch.specs.Inbox.{AreNews, Rises, inbox, signals_between}
use Rattle.mcs_stretch.specs.Stretch.{StandsAt, NothingArrivesBefore, rows_between}
use Rattle.mcs_window.specs.stored.Cores.{IsHere, AreSince, AreSetBelow}
use Rattle.mcs_window.specs.stored.Delivery.{AreDelivered}
use Rattle.mcs_window.specs.stored.Opening.{AreDelays}
use Rattle.mcs_window.specs.stored.Reaches.{AreReaches}
use Rattle.mcs_window.specs.Desk.{Table, clock_of, loan_of}
use Rattle.mcs_window.specs.declared.calendar.Calendar.{Calendar}
use Rattle.mcs_window.specs.declared.slot.Loan.{Loan}
use Rattle.mcs_window.specs.declared.slot.Slot.{Slot}
use Rattle.mcs_window.specs.declared.slot.Slot.TheVariants.{Here, Away}
use Rattle.mcs_window.specs.declared.desk.Desk.TheInside.{Inside}

abbrev pub slot_loan : Slot → Option Loan
slot_loan (Here spare state) = None
slot_loan (Away loan) = Some loan

abbrev pub table_of : {S : Type 0} → Inside S → Table
table_of a =
    record {
      system = arc_value a.system;
      horizon = a.horizon;
      lost = a.lost;
      clocks = a.clocks;
      taken = a.taken;
      loans = map slot_loan a.slots.items;
    }

-- the loan of a core, and the signals that the cores made for it since the front, by the clocks of
-- all
pub record IsAway (system : System) (horizon core : ℕ) (clocks : List ℕ) (loan : Loan) (box : List Mail) : Type 0 where
  pub in_order : slice_index clocks core ≤ loan.past
  pub in_time : loan.past ≤ horizon + 1
  pub reached : NothingArrivesBefore system core loan.past loan.front
  pub rises : Rises system loan.front clocks
  pub box_are : AreNews system core loan.past loan.front clocks box

-- a core that is not lent has its state, its inbox and a copy of the system for its next piece
abbrev pub IsPlaced : System → ℕ → ℕ → List ℕ → List Mail → Slot → Type 0
IsPlaced system horizon core clocks box (Here spare state) =
    (arc_value spare ≡ system) × IsHere system core (slice_index clocks core) clocks state.value box
IsPlaced system horizon core clocks box (Away loan) = IsAway system horizon core clocks loan box

-- each core is in its place
abbrev pub ArePlaced : System → ℕ → List ℕ → List Slot → List Content → Type 0
ArePlaced system horizon clocks slots boxes =
    (core : ℕ) (slot : Slot) (box : Content) → core < system.cores →
    IsPlaced system horizon core clocks (slice_index_or boxes core box).mails (slice_index_or slots core slot)

pub record IsKept {S : Type 0} (holds : S → List Row → Type 0) (a : Inside S) : Type 0 where
  pub horizon : a.horizon ≤ 2 ^ 40
  pub well_formed : IsWellFormed (arc_value a.system)
  pub few : (arc_value a.system).cores ≤ 64
  pub clocks_of : length a.clocks ≡ 64
  pub taken_of : length a.taken ≡ 64
  pub idle : (b : ℕ) → (arc_value a.system).cores ≤ b → slice_index a.clocks b ≡ 0
  pub slots_of : length a.slots.items ≡ (arc_value a.system).cores
  pub boxes_of : length a.boxes.items ≡ (arc_value a.system).cores
  pub delays_are : AreDelays (arc_value a.system) (arc_value a.system).cores a.delays.items
  pub reaches_are : AreReaches (arc_value a.system) a.reaches.items
  pub since : AreSince holds (arc_value a.system) a.horizon a.clocks a.taken a.told.items
  pub placed : ArePlaced (arc_value a.system) a.horizon a.clocks a.slots.items a.boxes.items

-- the slot of core c at the beginning
abbrev pub IsFresh : System → ℕ → Slot → Type 0
IsFresh system c (Here spare state) =
    (arc_value spare ≡ system) × (state.value ≡ opening_state system c) × Fits system state.value
IsFresh system c (Away loan) = ⊥

-- the slots of the cores below this number, at the beginning
pub record AreFresh (system : System) (many : ℕ) (slots : List Slot) : Type 0 where
  pub many_are : length slots ≡ many
  pub each : (c : ℕ) (x : Slot) → c < many → IsFresh system c (slice_index_or slots c x)

-- core c is not lent and has its state at moment t
abbrev pub StandsIn : System → ℕ → ℕ → Slot → Type 0
StandsIn system c t (Here spare state) = (arc_value spare ≡ system) × StandsAt system c t state.value
StandsIn system c t (Away loan) = ⊥

-- no core is lent, and each has its state at its clock
abbrev pub AllStand : System → List ℕ → List Slot → Type 0
AllStand system clocks slots =
    (c : ℕ) (x : Slot) → c < system.cores → StandsIn system c (slice_index clocks c) (slice_index_or slots c x)

-- the core of the slot is not lent and only counts ticks until the moment (`MaySkip`), and it has
-- moved there (`HasSkipped`)
abbrev pub MaySkip : System → ℕ → Slot → Type 0
MaySkip system moment (Here spare state) =
    Fits system state.value
    × (state.value.failed ≡ false)
    × (state.value.clock ≤ moment)
    × AreQuietWith by_priority system state.value.number state.value.clock [] state.value.core (moment - state.value.clock)
MaySkip system moment (Away loan) = ⊥

abbrev pub HasSkipped : System → ℕ → Slot → Slot → Type 0
HasSkipped system moment (Here spare state) (Here other after) =
    (other ≡ spare)
    × (after.value
    ≡ record state.value { clock = moment; core = counted_times system state.value.number (moment - state.value.clock) state.value.core })
    × Fits system after.value
HasSkipped system moment (Here spare state) (Away loan) = ⊥
HasSkipped system moment (Away loan) slot = ⊥

-- the cores below number `many` with earlier clocks have moved to the moment
pub record HaveSkipped (system : System) (clocks : List ℕ) (moment many : ℕ) (later : List ℕ) (slots : List Slot) :
    Type 0 where
  pub clocks_are : AreSetBelow clocks moment many later
  pub many_are : length slots ≡ system.cores
  pub stand : AllStand system later slots

-- core c, which is not lent and has this mail at its clock in `front`, may take its turns up to
-- before `past`
pub record MayGo (system : System) (c past : ℕ) (front : List ℕ) (slot : Slot) (box : List Mail) : Type 0 where
  pub known : c < system.cores
  pub stands : StandsIn system c (slice_index front c) slot
  pub box_is : box ≡ inbox system c (slice_index front c) front
  pub ahead : slice_index front c < past
  pub in_time : past ≤ 2 ^ 40 + 1
  pub reached : NothingArrivesBefore system c past front

-- such a core has taken its turns up to before `to`, and emitted their rows
pub record HasGone {S : Type 0} (takes : S → Row → Bool → S → Type 0) (system : System) (c past : ℕ) (front : List ℕ)
    (before : S) (slot : Slot) (box : List Mail) (after : S) (signals : List Mail) (to : ℕ) : Type 0 where
  pub later : slice_index front c < to
  pub in_time : to ≤ past
  pub stands : StandsIn system c to slot
  pub box_is : box ≡ inbox system c to front
  pub told : Given takes before (rows_between system c (slice_index front c) to) after
  pub signals_are : signals ≡ signals_between system c (slice_index front c) to

-- such a core has taken its turns (`HasGone`), and its signals went to their homes
pub record HasGoneAndSent {S : Type 0} (takes : S → Row → Bool → S → Type 0) (system : System) (c past : ℕ)
    (front : List ℕ) (before : S) (boxes : List Content) (slot : Slot) (full : List Content) (after : S)
    (signals : List Mail) (to : ℕ) : Type 0 where
  pub left : Content
  pub gone : HasGone takes system c past front before slot left.mails after signals to
  pub delivered : AreDelivered system signals (slice_set boxes c left) full

-- the mail of the other cores is unchanged
pub record AreSameBut (c : ℕ) (before after : List Content) : Type 0 where
  pub many : length after ≡ length before
  pub each : (b : ℕ) (x : Content) → b < length before → b ≢ c
      → (slice_index_or after b x).mails ≡ (slice_index_or before b x).mails

-- core c has the minimum clock of the cores below number n that are not lent, and of those with
-- that clock the lowest number
pub record IsEarliestBelow (table : Table) (n c : ℕ) : Type 0 where
  pub below : c < n
  pub here : loan_of table c ≡ None
  pub least : (k : ℕ) → k < n → loan_of table k ≡ None → clock_of table c ≤ clock_of table k
  pub first : (k : ℕ) → k < c → loan_of table k ≡ None → clock_of table c < clock_of table k

-- the earliest of the cores below number n that are not lent, or `None` if all of them are lent
abbrev pub IsEarliest : Table → ℕ → Option ℕ → Type 0
IsEarliest table n None = (k : ℕ) → k < n → loan_of table k ≢ None
IsEarliest table n (Some c) = IsEarliestBelow table n c

-- each core only counts ticks until the moment that the calendar has for it, unless the calendar is
-- stale
abbrev pub HoldsAt : Table → Calendar → Type 0
HoldsAt table calendar =
    calendar.stale ≡ false → (c : ℕ) → c < table.system.cores →
    IsIdle table.system table.clocks (slice_index calendar.until c) c
