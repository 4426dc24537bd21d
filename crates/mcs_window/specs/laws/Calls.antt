-- The contracts of a desk's calls, as steps.
use Rattle.std.specs.Prelude.{◌≡◌, ℕ, ◌-◌, ◌<◌, ◌≤◌, false, List, [], ◌∷◌, ◌++◌, replicate}
use Rattle.mcs_system.specs.System.{System, TakesTime}
use Rattle.mcs_window.specs.Desk.{Table, opening_table, AllAreHere, IsSkipped, IsAwake, MayLend, IsLent, IsLentWithin, IsLoan, IsLater, IsSpent, lent_at, settled_at, taken_at, with_lost}
use Rattle.mcs_window.specs.Pieces.{Outcome}
use Rattle.mcs_window.specs.laws.Steps.{Step, Settle, Forfeit, TakeRows, after_steps, turns_of, turns_in, AreTaken, NoneGoes, NoneIsSpent}

-- these steps lead from the first table to the second
pub record IsBy (before after : Table) (steps : List Step) : Type 0 where
  pub taken : AreTaken before steps
  pub after_is : after ≡ after_steps before steps

-- these steps lead there, and no core takes turns on the desk itself
abbrev pub IsByLoans : Table → Table → Type 0
IsByLoans before after = (steps : List Step) × IsBy before after steps × NoneGoes steps

-- the contracts of the calls that lend, skip idle time, settle, forfeit and take rows
pub record CallsAreSteps (before after : Table) : Type 0 where
  pub lent : (c : ℕ) → IsLent before c after → IsByLoans before after
  pub lent_within : (span c : ℕ) → 1 ≤ span → IsLentWithin before span c after → IsByLoans before after
  pub core_lent : (c : ℕ) → before.lost ≡ false → MayLend before c → after ≡ lent_at before c → IsByLoans before after
  pub not_lent : IsAwake before after → IsByLoans before after
  pub skipped : AllAreHere before → IsSkipped before after → IsByLoans before after
  pub settled : (done : Outcome) → done.core < before.system.cores → IsLoan before done
      → after ≡ settled_at before done.core done.past →
      IsBy before after (Settle done.core ∷ [])
      × (turns_of before (Settle done.core) ≡ replicate (done.past - done.first) done.core)
  pub forfeited : after ≡ with_lost before → IsBy before after (Forfeit ∷ [])
  pub rows_taken : (c : ℕ) → c < before.system.cores → after ≡ taken_at before c → IsBy before after (TakeRows c ∷ [])

-- the contracts of the calls that take turns on the desk itself, in success and when memory runs
-- out
pub record GoingIsSteps (before after : Table) : Type 0 where
  pub went : (later : IsLater before after) →
      (steps : List Step) × IsBy before after steps × NoneIsSpent steps × (turns_in before steps ≡ later.went.turns)
  pub spent : IsSpent before after → (steps : List Step) × IsBy before after steps

-- each call of a desk that came about by steps is a list of steps
abbrev pub DeskCallsAreSteps : Type 0
DeskCallsAreSteps =
    (system : System) (horizon : ℕ) (so_far : List Step) (before after : Table) → TakesTime system → system.cores ≤ 64 →
    IsBy (opening_table system horizon) before so_far →
    CallsAreSteps before after × (AllAreHere before → GoingIsSteps before after)

-- consecutive calls are consecutive steps
abbrev pub StepsJoin : Type 0
StepsJoin =
    (before table after : Table) (first second : List Step) → IsBy before table first → IsBy table after second →
    IsBy before after (first ++ second) × (turns_in before (first ++ second) ≡ turns_in before first ++ turns_in table second)
