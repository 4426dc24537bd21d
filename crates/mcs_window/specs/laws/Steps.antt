-- The steps of a desk over all its calls, and the turns that it takes, in their order.
use Rattle.std.specs.Prelude.{◌≡◌, ◌≢◌, ℕ, ◌+◌, ◌-◌, ◌<◌, ◌≤◌, nat_le, false, Option, Some, None, List, [], ◌∷◌, ◌++◌, filter, flat_map, length, replicate, slice_index}
use Rattle.std.specs.List.{range_with_len}
use Rattle.mcs_system.specs.System.{System, TakesTime}
use Rattle.mcs_stretch.specs.Safe.{IsSafe}
use Rattle.mcs_stretch.specs.ByScripts.{IsSafeByScripts, IsFarByScripts, clocks_after}
use Rattle.mcs_stretch.specs.Idle.{AreSet}
use Rattle.mcs_window.specs.Desk.{Table, clock_of, past_of, loan_of, opening_table, MayLend, AllAreHere, lent_to, settled_at, taken_at, with_lost}
use Rattle.mcs_window.specs.declared.slot.Loan.{Loan}

-- a step of the desk:
--
-- - `Lend`: a core is lent up to before a moment
-- - `Settle`: a lent core comes back
-- - `Forfeit`: a piece is lost
-- - `TakeRows`: rows of a core are taken
-- - `Skip`: all earlier clocks are set to a moment
-- - `Go`: a core takes its turns on the desk itself, up to before a moment
-- - `Spend`: a core runs out of memory there and is lost: it stays lent for good, and its rows are
--   gone
pub data Step : Type 0 where
  Lend : (core past : ℕ) → Step
  Settle : (core : ℕ) → Step
  Forfeit : Step
  TakeRows : (core : ℕ) → Step
  Skip : (moment : ℕ) (later : List ℕ) → Step
  Go : (core past : ℕ) → Step
  Spend : (core past : ℕ) → Step

-- core c comes back from its loan, if it has one
abbrev pub settled_loan : Table → ℕ → Option Loan → Table
settled_loan table c None = table
settled_loan table c (Some loan) = settled_at table c loan.past

-- the desk after a step
abbrev pub after_step : Table → Step → Table
after_step table (Lend c past) = lent_to table c past
after_step table (Settle c) = settled_loan table c (loan_of table c)
after_step table Forfeit = with_lost table
after_step table (TakeRows c) = taken_at table c
after_step table (Skip moment later) = record table { clocks = later }
after_step table (Go c past) = settled_at table c past
after_step table (Spend c past) = taken_at (with_lost (lent_to table c past)) c

abbrev pub after_steps : Table → List Step → Table
after_steps table [] = table
after_steps table (step ∷ steps) = after_steps (after_step table step) steps

-- core c takes its turns from its clock to before `past`
abbrev pub turns_until : Table → ℕ → ℕ → List ℕ
turns_until table c past = replicate (past - clock_of table c) c

abbrev pub turns_of_loan : Table → ℕ → Option Loan → List ℕ
turns_of_loan table c None = []
turns_of_loan table c (Some loan) = turns_until table c loan.past

-- the cores whose clocks are not past moment t
abbrev pub cores_by : Table → ℕ → List ℕ
cores_by table t = filter (λ c. nat_le (clock_of table c) t) (range_with_len 0 table.system.cores)

-- the turns of a step, each as the number of its core: those of a loan when it is settled, those of
-- idle time by moment, then core
abbrev pub turns_of : Table → Step → List ℕ
turns_of table (Lend c past) = []
turns_of table (Settle c) = turns_of_loan table c (loan_of table c)
turns_of table Forfeit = []
turns_of table (TakeRows c) = []
turns_of table (Skip moment later) = flat_map (cores_by table) (range_with_len 0 moment)
turns_of table (Go c past) = turns_until table c past
turns_of table (Spend c past) = []

-- the turns of all steps, in order of the steps
abbrev pub turns_in : Table → List Step → List ℕ
turns_in table [] = []
turns_in table (step ∷ steps) = turns_of table step ++ turns_in (after_step table step) steps

-- no core is lent, and all earlier clocks may be set to a moment, at most one past the horizon
pub record MaySkipTo (table : Table) (moment : ℕ) (later : List ℕ) : Type 0 where
  pub here : AllAreHere table
  pub in_time : moment ≤ table.horizon + 1
  pub many : table.system.cores ≤ length later
  pub set : AreSet table.system table.clocks moment later

-- core c is on the desk, and runs as far as the scripts allow
pub record MayGoTo (table : Table) (c past : ℕ) : Type 0 where
  pub known : c < table.system.cores
  pub here : loan_of table c ≡ None
  pub ahead : clock_of table c ≤ past
  pub in_time : past ≤ table.horizon + 1
  pub far : IsFarByScripts table.system table.clocks c past

-- core c may be lent, up to a moment that the clocks of all allow
pub record MayLendTo (table : Table) (c past : ℕ) : Type 0 where
  pub sound : table.lost ≡ false
  pub may : MayLend table c
  pub ahead : clock_of table c ≤ past
  pub in_time : past ≤ past_of table c

-- the desk may take the step
abbrev pub MayTake : Table → Step → Type 0
MayTake table (Lend c past) = MayLendTo table c past
MayTake table (Settle c) = (c < table.system.cores) × (loan_of table c ≢ None)
MayTake table Forfeit = Unit {0}
MayTake table (TakeRows c) = c < table.system.cores
MayTake table (Skip moment later) = MaySkipTo table moment later
MayTake table (Go c past) = MayGoTo table c past
MayTake table (Spend c past) = MayGoTo table c past

abbrev pub AreTaken : Table → List Step → Type 0
AreTaken table [] = Unit {0}
AreTaken table (step ∷ steps) = MayTake table step × AreTaken (after_step table step) steps

-- no core takes turns on the desk itself
abbrev pub IsNoGo : Step → Type 0
IsNoGo (Lend c past) = Unit {0}
IsNoGo (Settle c) = Unit {0}
IsNoGo Forfeit = Unit {0}
IsNoGo (TakeRows c) = Unit {0}
IsNoGo (Skip moment later) = Unit {0}
IsNoGo (Go c past) = ⊥
IsNoGo (Spend c past) = ⊥

abbrev pub NoneGoes : List Step → Type 0
NoneGoes [] = Unit {0}
NoneGoes (step ∷ steps) = IsNoGo step × NoneGoes steps

-- no core stays lent for good
abbrev pub IsNoLoss : Step → Type 0
IsNoLoss (Lend c past) = Unit {0}
IsNoLoss (Settle c) = Unit {0}
IsNoLoss Forfeit = Unit {0}
IsNoLoss (TakeRows c) = Unit {0}
IsNoLoss (Skip moment later) = Unit {0}
IsNoLoss (Go c past) = Unit {0}
IsNoLoss (Spend c past) = ⊥

abbrev pub NoneIsSpent : List Step → Type 0
NoneIsSpent [] = Unit {0}
NoneIsSpent (step ∷ steps) = IsNoLoss step × NoneIsSpent steps

-- the clock of each core is the one to which the turns bring it
abbrev pub AreClocksAfter : Table → List ℕ → Type 0
AreClocksAfter table turns =
    (c : ℕ) → c < table.system.cores → clock_of table c ≡ slice_index (clocks_after (replicate table.system.cores 0) turns) c

-- if no core takes turns on the desk itself, the turns in order of the steps are a safe order
abbrev pub DeskStepsAreASafeOrder : Type 0
DeskStepsAreASafeOrder =
    (system : System) (horizon : ℕ) (steps : List Step) → TakesTime system → system.cores ≤ 64 →
    AreTaken (opening_table system horizon) steps → NoneGoes steps →
    IsSafe system horizon (replicate system.cores 0) (turns_in (opening_table system horizon) steps)

-- for all steps, that order is safe by the scripts, and it brings each core to its clock
abbrev pub DeskStepsAreSafeByScripts : Type 0
DeskStepsAreSafeByScripts =
    (system : System) (horizon : ℕ) (steps : List Step) → TakesTime system → system.cores ≤ 64 →
    AreTaken (opening_table system horizon) steps →
    let turns = turns_in (opening_table system horizon) steps in
    IsSafeByScripts system horizon (replicate system.cores 0) turns
    × AreClocksAfter (after_steps (opening_table system horizon) steps) turns

-- also among turns that cores take on the desk itself, the turns of each settled loan are safe in
-- the first sense, by the clocks that the desk then has
abbrev pub SettledLoansAreSafe : Type 0
SettledLoansAreSafe =
    (system : System) (horizon : ℕ) (steps : List Step) (c : ℕ) → TakesTime system → system.cores ≤ 64 →
    AreTaken (opening_table system horizon) steps → NoneIsSpent steps →
    let table = after_steps (opening_table system horizon) steps in
    MayTake table (Settle c) → IsSafe system horizon table.clocks (turns_of table (Settle c))
