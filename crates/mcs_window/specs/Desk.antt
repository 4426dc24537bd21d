-- A desk: the cores of a system, each on the desk or lent for a stretch that the clocks of the
-- others allow.
use Rattle.std.specs.Prelude.{◌≡◌, ◌≢◌, ◌⊎◌, ℕ, ◌+◌, ◌-◌, ◌<◌, ◌≤◌, ◌==◌, min, if◌then◌else◌, Bool, true, false, Option, Some, None, List, [], fold, sum_by, length, get_or, replicate, slice_index, slice_index_or, slice_set}
use Rattle.std.specs.List.{range_with_len}
use Rattle.mcs_ticks.specs.declared.row.Row.{Row}
use Rattle.mcs_system.specs.System.{System, delay_between}
use Rattle.mcs_stretch.specs.ByScripts.{IsSafeByScripts, IsFarByScripts, clocks_after}
use Rattle.mcs_stretch.specs.Idle.{AreSet, IsIdleUntil}
use Rattle.mcs_window.specs.Pieces.{Outcome}
use Rattle.mcs_stretch.specs.Stretch.{rows_between, NothingArrivesBefore}
use Rattle.mcs_window.specs.declared.slot.Loan.{Loan}
use Rattle.mcs_window.specs.declared.fault.SettleFault.{SettleFault}
use Rattle.mcs_window.specs.declared.fault.SettleFault.TheVariants.{Foreign, NotLent, OtherLoan, NoMemory}

-- `lost`: a piece was lost, or a core on the desk itself; `clocks`: the clocks, 0 past the last
-- core; `taken`: the clock of each core when its rows were last taken; `loans`: the loan of each
-- core, if it is lent
pub record Table : Type 0 where
  pub system : System
  pub horizon : ℕ
  pub lost : Bool
  pub clocks : List ℕ
  pub taken : List ℕ
  pub loans : List (Option Loan)

abbrev pub opening_table : System → ℕ → Table
opening_table system horizon =
    record {
      system = system;
      horizon = horizon;
      lost = false;
      clocks = replicate 64 0;
      taken = replicate 64 0;
      loans = replicate system.cores None;
    }

-- an empty collector for each core
pub record AreEmpty {S : Type 0} (holds : S → List Row → Type 0) (many : ℕ) (told : List S) : Type 0 where
  pub many_are : length told ≡ many
  pub each : (c : ℕ) (x : S) → c < many → holds (slice_index_or told c x) []

-- a collector for each core, with its rows from its time in `taken` to before its time in `clocks`
pub record AreToldBetween {S : Type 0} (holds : S → List Row → Type 0) (system : System) (taken clocks : List ℕ)
    (told : List S) : Type 0 where
  pub many_are : length told ≡ system.cores
  pub each : (c : ℕ) (x : S) → c < system.cores
      → holds (slice_index_or told c x) (rows_between system c (slice_index taken c) (slice_index clocks c))

-- a collector for each core, with its rows since they were last taken
abbrev pub AreTold : {S : Type 0} → (S → List Row → Type 0) → Table → List S → Type 0
AreTold holds table told = AreToldBetween holds table.system table.taken table.clocks told

abbrev pub clock_of : Table → ℕ → ℕ
clock_of table c = slice_index table.clocks c

abbrev pub taken_of : Table → ℕ → ℕ
taken_of table c = slice_index table.taken c

abbrev pub loan_of : Table → ℕ → Option Loan
loan_of table c = get_or table.loans c None

-- the moment up to which core c may be lent: at most one past the horizon, and no signal that
-- another core has yet to make, from its clock on, arrives before it
abbrev pub past_of : Table → ℕ → ℕ
past_of table c =
    fold (λ past b. if b == c then past else min past (clock_of table b + delay_between table.system b c))
    (table.horizon + 1) (range_with_len 0 table.system.cores)

-- the moment up to which core c may be lent for at most `span` moments
abbrev pub past_within : Table → ℕ → ℕ → ℕ
past_within table span c = min (clock_of table c + span) (past_of table c)

-- core c is not lent, and it may take at least one turn
pub record MayLend (table : Table) (c : ℕ) : Type 0 where
  pub known : c < table.system.cores
  pub here : loan_of table c ≡ None
  pub ahead : clock_of table c < past_of table c

-- core c is not lent, and it may run up to before `past`: no signal that another core has yet to
-- make arrives before it
pub record MayGoOn (table : Table) (c past : ℕ) : Type 0 where
  pub known : c < table.system.cores
  pub here : loan_of table c ≡ None
  pub ahead : clock_of table c < past
  pub in_time : past ≤ table.horizon + 1
  pub reached : NothingArrivesBefore table.system c past table.clocks
  pub far : IsFarByScripts table.system table.clocks c past

-- core c has the minimum clock of the cores that may be lent, and of those with that clock the
-- lowest number
pub record IsChosen (table : Table) (c : ℕ) : Type 0 where
  pub may : MayLend table c
  pub least : (k : ℕ) → MayLend table k → clock_of table c ≤ clock_of table k
  pub first : (k : ℕ) → MayLend table k → k < c → clock_of table c < clock_of table k

-- core c is the one to lend of the cores below number n; `None`: no such core may be lent
pub record IsChosenBelow (table : Table) (n c : ℕ) : Type 0 where
  pub below : c < n
  pub may : MayLend table c
  pub least : (k : ℕ) → k < n → MayLend table k → clock_of table c ≤ clock_of table k
  pub first : (k : ℕ) → MayLend table k → k < c → clock_of table c < clock_of table k

abbrev pub IsBest : Table → ℕ → Option ℕ → Type 0
IsBest table n None = (k : ℕ) → k < n → ¬ MayLend table k
IsBest table n (Some c) = IsChosenBelow table n c

-- core c is lent up to before `past`
abbrev pub lent_to : Table → ℕ → ℕ → Table
lent_to table c past =
    record table { loans = slice_set table.loans c (Some (record { past = past; front = table.clocks })) }

-- core c is lent, as far as the clocks of all allow
abbrev pub lent_at : Table → ℕ → Table
lent_at table c = lent_to table c (past_of table c)

-- core c comes back after its stretch
abbrev pub settled_at : Table → ℕ → ℕ → Table
settled_at table c past =
    record table { clocks = slice_set table.clocks c past; loans = slice_set table.loans c None }

-- the rows of core c are taken
abbrev pub taken_at : Table → ℕ → Table
taken_at table c = record table { taken = slice_set table.taken c (clock_of table c) }

-- no core is lent
abbrev pub AllAreHere : Table → Type 0
AllAreHere table = (c : ℕ) → c < table.system.cores → loan_of table c ≡ None

-- idle time is skipped: all earlier clocks are set to the first moment at which some core does more
-- than count a tick
pub record IsSkipped (before after : Table) : Type 0 where
  pub moment : ℕ
  pub until : IsIdleUntil before.system before.clocks (before.horizon + 1) moment
  pub clocks : AreSet before.system before.clocks moment after.clocks
  pub many : length after.clocks ≡ length before.clocks
  pub rest : after ≡ record before { clocks = after.clocks }

-- the change before a core is lent: idle time is skipped if no core is lent and none was lost;
-- otherwise nothing changes
abbrev pub IsAwake : Table → Table → Type 0
IsAwake before after =
    ((before.lost ≡ false) × AllAreHere before × IsSkipped before after)
    ⊎ ((before.lost ≡ false → ¬ AllAreHere before) × (after ≡ before))

-- core c is lent: it is chosen after that change (`IsAwake`)
pub record IsLent (before : Table) (c : ℕ) (after : Table) : Type 0 where
  pub table : Table
  pub awake : IsAwake before table
  pub sound : before.lost ≡ false
  pub chosen : IsChosen table c
  pub lent : after ≡ lent_at table c

-- core c is lent in this way, for at most `span` moments
pub record IsLentWithin (before : Table) (span c : ℕ) (after : Table) : Type 0 where
  pub table : Table
  pub awake : IsAwake before table
  pub sound : before.lost ≡ false
  pub chosen : IsChosen table c
  pub lent : after ≡ lent_to table c (past_within table span c)

-- only clocks and loans changed
pub record IsSameRun (before after : Table) : Type 0 where
  pub system_is : after.system ≡ before.system
  pub horizon_is : after.horizon ≡ before.horizon
  pub lost_is : after.lost ≡ before.lost
  pub taken_are : after.taken ≡ before.taken

-- a piece or a core was lost
abbrev pub with_lost : Table → Table
with_lost table = record table { lost = true }

-- the stretch is the one for which its core is lent
pub record IsLoan (table : Table) (done : Outcome) : Type 0 where
  pub first : done.first ≡ clock_of table done.core
  pub loan : loan_of table done.core ≡ Some (record { past = done.past; front = done.front })

-- the condition of each fault of a settlement, in the order of the checks
abbrev pub IsSettleFault : Table → Outcome → SettleFault → Type 0
IsSettleFault table done Foreign = done.system ≢ table.system
IsSettleFault table done NotLent = (done.system ≡ table.system) × (loan_of table done.core ≡ None)
IsSettleFault table done OtherLoan =
    (done.system ≡ table.system) × (loan_of table done.core ≢ None) × ¬ IsLoan table done
IsSettleFault table done NoMemory = (done.system ≡ table.system) × IsLoan table done

-- every core has taken its turn at the horizon
abbrev pub IsFinished : Table → Type 0
IsFinished table = (c : ℕ) → c < table.system.cores → clock_of table c ≡ table.horizon + 1

-- turns were taken on the desk, in an order that is safe by the scripts, and only clocks changed
pub record WentByScripts (before after : Table) : Type 0 where
  pub turns : List ℕ
  pub safe : IsSafeByScripts before.system before.horizon before.clocks turns
  pub rest : after ≡ record before { clocks = clocks_after before.clocks turns }

-- a later table of the same run: no core is lent, none was lost, and no rows were taken since
pub record IsLater (before after : Table) : Type 0 where
  pub system_is : after.system ≡ before.system
  pub horizon_is : after.horizon ≡ before.horizon
  pub taken_are : after.taken ≡ before.taken
  pub sound : after.lost ≡ false
  pub here : AllAreHere after
  pub went : WentByScripts before after

-- memory ran out: the cores ran on to `table`, and then core `core`, which was to run up to before
-- `past`, was lost: it stays lent for good, and its rows that were not taken are gone
pub record IsSpent (before after : Table) : Type 0 where
  pub table : Table
  pub core : ℕ
  pub past : ℕ
  pub later : IsLater before table
  pub may : MayGoOn table core past
  pub spent : after ≡ taken_at (with_lost (lent_to table core past)) core

-- the number of turns still to be taken
abbrev pub turns_left : Table → ℕ
turns_left table = sum_by (λ c. table.horizon + 1 - clock_of table c) (range_with_len 0 table.system.cores)

-- the amount of rows since they were last taken, by a measure of rows
abbrev pub amount_kept : (List Row → ℕ) → Table → ℕ
amount_kept amount table =
    sum_by (λ c. amount (rows_between table.system c (taken_of table c) (clock_of table c)))
    (range_with_len 0 table.system.cores)
