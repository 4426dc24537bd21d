-- The responses of rows, counted from the beginnings of rounds by the rows, and the parts of rounds.
use Rattle.std.specs.Prelude.{◌≡◌, ℕ, ◌+◌, List, [], ◌∷◌, Some}
use Rattle.mcs_ticks.specs.declared.row.Row.{Row}
use Rattle.mcs_ticks.specs.declared.row.What.{What}
use Rattle.mcs_ticks.specs.declared.row.What.TheVariants as row
use Rattle.mcs_system.specs.System.{System}
use Rattle.mcs_system.specs.WellFormed.{IsWellFormed}
use Rattle.mcs_core.specs.Clock.{schedule}
use Rattle.mcs_verdict.specs.declared.finding.Finding.{Finding}
use Rattle.mcs_verdict.specs.declared.finding.Finding.TheVariants.{Overdue}
use Rattle.mcs_verdict.specs.declared.job.Job.{Job}
use Rattle.mcs_verdict.specs.declared.standing.Stood.{Stood}
use Rattle.mcs_verdict.specs.Findings.{past_of}
use Rattle.mcs_verdict.specs.Jobs.{job}
use Rattle.mcs_verdict.specs.Misses.{overdue}
use Rattle.mcs_verdict.specs.Rounds.{begun_of}

-- the rows before the end of a round have its beginning, and its response counts from there
pub record IsTold (system : System) (past : List Row) (moment thread response : ℕ) : Type 0 where
  pub beginning : ℕ
  pub told : begun_of system thread past ≡ Some beginning
  pub response_is : moment ≡ beginning + response

-- the ticks are queued, ready, running, throttled or blocked, or the thread waited for a server in
-- them; it was pending or done in none
pub record HasParts (ticks queued : ℕ) (stood : Stood) : Type 0 where
  pub sum : queued + (stood.ready + stood.running + stood.throttled + stood.blocked + stood.server) ≡ ticks
  pub pending : stood.pending ≡ 0
  pub done : stood.done ≡ 0

-- the parts of a job sum to its response, which counts from its activation
pub record IsSummed (job : Job) : Type 0 where
  pub parts : HasParts job.response job.queued job.stood
  pub response_is : job.ended ≡ job.activated + job.response

-- the parts of an overdue round sum to its age, which counts from its activation
abbrev pub IsAged : ℕ → Finding → Type 0
IsAged horizon (Overdue thread number age deadline activated queued stood) = HasParts age queued stood × (horizon ≡ activated + age)
IsAged horizon _ = Unit {0}

-- the law for a row that comes after these, if it ends a round
abbrev pub IsToldBy : System → List Row → ℕ → What → Type 0
IsToldBy system past moment (row.Round thread number response) = IsTold system past moment thread response
IsToldBy system past moment _ = Unit {0}

abbrev pub IsSummedBy : System → List Row → ℕ → What → Type 0
IsSummedBy system past moment (row.Round thread number response) = IsSummed (job system past moment thread number)
IsSummedBy system past moment _ = Unit {0}

-- the law for each row, by the rows before it
abbrev pub AreTold : System → List Row → List Row → Type 0
AreTold system past [] = Unit {0}
AreTold system past (r ∷ rows) = IsToldBy system past r.moment r.what × AreTold system (r ∷ past) rows

abbrev pub AreSummed : System → List Row → List Row → Type 0
AreSummed system past [] = Unit {0}
AreSummed system past (r ∷ rows) = IsSummedBy system past r.moment r.what × AreSummed system (r ∷ past) rows

-- both laws hold for the schedule of the clock
abbrev pub ResponsesAreTold : Type 0
ResponsesAreTold = (system : System) → IsWellFormed system → (horizon : ℕ) → AreTold system [] (schedule system horizon)

abbrev pub PartsSumToResponses : Type 0
PartsSumToResponses = (system : System) → IsWellFormed system → (horizon : ℕ) → AreSummed system [] (schedule system horizon)

abbrev pub PartsSumToAges : Type 0
PartsSumToAges =
    (system : System) → IsWellFormed system → (horizon thread : ℕ) (found : Finding) →
    overdue system (past_of [] (schedule system horizon)) horizon thread ≡ Some found → IsAged horizon found
