-- The findings of rows, each by the rows before it, and the findings at the horizon.
use Rattle.std.specs.Prelude.{ℕ, suc, ◌≤◌, List, [], ◌∷◌, ◌++◌, Option, Some, None}
use Rattle.mcs_ticks.specs.declared.row.Row.{Row}
use Rattle.mcs_ticks.specs.declared.row.What.{What}
use Rattle.mcs_ticks.specs.declared.row.What.TheVariants as row
use Rattle.mcs_system.specs.declared.part.NotePart.{NotePart}
use Rattle.mcs_system.specs.declared.part.ThreadPart.{ThreadPart}
use Rattle.mcs_system.specs.System.{System, core_of}
use Rattle.mcs_verdict.specs.declared.finding.Finding.{Finding}
use Rattle.mcs_verdict.specs.declared.finding.Found.{Found}
use Rattle.mcs_verdict.specs.Misses.{miss, unended}
use Rattle.mcs_verdict.specs.Due.{untaken}
use Rattle.mcs_verdict.specs.Words.{lost}

-- the finding of a row that comes after these
abbrev pub finding : System → List Row → ℕ → What → Option Finding
finding system past moment (row.Round thread number response) = miss system past moment thread number
finding system past moment (row.Hold note word) = lost system past note word
finding system past moment _ = None

-- the rows so far are in the order of their times, and none is later than this time
abbrev pub UpTo : ℕ → List Row → Type 0
UpTo moment [] = Unit {0}
UpTo moment (r ∷ past) = (r.moment ≤ moment) × UpTo r.moment past

-- no row is earlier than the rows before it
abbrev pub InOrder : List Row → List Row → Type 0
InOrder past [] = Unit {0}
InOrder past (r ∷ rows) = UpTo r.moment past × InOrder (r ∷ past) rows

-- all rows, the latest first
abbrev pub past_of : List Row → List Row → List Row
past_of past [] = past
past_of past (r ∷ rows) = past_of (r ∷ past) rows

abbrev pub found_at : ℕ → ℕ → Option Finding → List Found
found_at moment core None = []
found_at moment core (Some found) = record { moment = moment; core = core; finding = found } ∷ []

-- the findings of these rows, each by the rows before it
abbrev pub found_in : System → List Row → List Row → List Found
found_in system past [] = []
found_in system past (r ∷ rows) =
    found_at r.moment r.core (finding system past r.moment r.what) ++ found_in system (r ∷ past) rows

-- the findings at the horizon, of the threads from number n on
abbrev pub found_at_end : System → List Row → ℕ → ℕ → List ThreadPart → List Found
found_at_end system past horizon n [] = []
found_at_end system past horizon n (part ∷ parts) =
    found_at horizon (core_of system part) (unended system past horizon n) ++ found_at_end system past horizon (suc n) parts

-- the words that are untaken at the horizon, of the notifications from number n on
abbrev pub untaken_at_end : System → List Row → ℕ → ℕ → List NotePart → List Found
untaken_at_end system past horizon n [] = []
untaken_at_end system past horizon n (part ∷ parts) =
    found_at horizon part.core (untaken system past horizon n) ++ untaken_at_end system past horizon (suc n) parts

-- the findings at the horizon: by thread, and then by notification
abbrev pub all_at_end : System → List Row → ℕ → List Found
all_at_end system past horizon =
    found_at_end system past horizon 0 system.threads ++ untaken_at_end system past horizon 0 system.notes

-- all findings of a run up to the horizon
abbrev pub findings : System → ℕ → List Row → List Found
findings system horizon rows =
    found_in system [] rows ++ all_at_end system (past_of [] rows) horizon
