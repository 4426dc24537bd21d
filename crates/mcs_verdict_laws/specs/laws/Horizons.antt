-- Findings at two horizons: an overdue round stays overdue until it ends too late, and an activated
-- thread stays activated.
use Rattle.std.specs.Prelude.{◌≡◌, ℕ, ◌≤◌, Bool, false, ◌==◌, List, [], filter, None}
use Rattle.std.specs.List.{list_any}
use Rattle.mcs_system.specs.System.{System}
use Rattle.mcs_system.specs.WellFormed.{IsWellFormed}
use Rattle.mcs_core.specs.Clock.{schedule}
use Rattle.mcs_verdict.specs.declared.finding.Finding.{Finding}
use Rattle.mcs_verdict.specs.declared.finding.Finding.TheVariants.{Miss}
use Rattle.mcs_verdict.specs.declared.finding.Found.{Found}
use Rattle.mcs_verdict.specs.Findings.{past_of, found_in, findings}
use Rattle.mcs_verdict.specs.Misses.{overdue, never}

-- whether a round of the thread missed its deadline
abbrev pub is_miss_of : ℕ → Finding → Bool
is_miss_of thread (Miss x number response deadline activated queued stood) = x == thread
is_miss_of thread _ = false

abbrev pub has_miss_of : ℕ → List Found → Bool
has_miss_of thread found = list_any (λ (f : Found). is_miss_of thread f.finding) found

-- if no round of the thread missed its deadline up to a horizon, and no round is overdue there, no
-- round was overdue at an earlier one
abbrev pub OverdueStays : Type 0
OverdueStays =
    (system : System) → IsWellFormed system → (thread earlier later : ℕ) → earlier ≤ later →
    has_miss_of thread (found_in system [] (schedule system later)) ≡ false →
    overdue system (past_of [] (schedule system later)) later thread ≡ None →
    overdue system (past_of [] (schedule system earlier)) earlier thread ≡ None

-- a thread that was activated up to a horizon was activated up to each later one
abbrev pub ActivationStays : Type 0
ActivationStays =
    (system : System) → IsWellFormed system → (thread earlier later : ℕ) → earlier ≤ later →
    never system (past_of [] (schedule system earlier)) earlier thread ≡ None →
    never system (past_of [] (schedule system later)) later thread ≡ None

-- the findings of a group of cores in a run up to the horizon
abbrev pub found_of : System → (ℕ → Bool) → ℕ → List Found
found_of system group horizon = filter (λ (found : Found). group found.core) (findings system horizon (schedule system horizon))

-- a group without findings up to a horizon and up to a later one has no findings up to any horizon
-- between them
abbrev pub NothingIsFoundBetween : Type 0
NothingIsFoundBetween =
    (system : System) (group : ℕ → Bool) → IsWellFormed system → (earlier later : ℕ) →
    found_of system group earlier ≡ [] → found_of system group later ≡ [] →
    (horizon : ℕ) → earlier ≤ horizon → horizon ≤ later → found_of system group horizon ≡ []

-- the same for all cores
abbrev pub NothingAtAllIsFoundBetween : Type 0
NothingAtAllIsFoundBetween =
    (system : System) → IsWellFormed system → (earlier later : ℕ) →
    findings system earlier (schedule system earlier) ≡ [] → findings system later (schedule system later) ≡ [] →
    (horizon : ℕ) → earlier ≤ horizon → horizon ≤ later → findings system horizon (schedule system horizon) ≡ []
