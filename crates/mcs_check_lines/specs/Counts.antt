-- The numbers of findings, by kind.
use Rattle.std.specs.Prelude.{ℕ, ◌+◌, Bool, false, if◌then◌else◌, List, get_or, Option, Some, None}
use Rattle.mcs_ticks.specs.Capped.{capped}
pub use Rattle.mcs_ticks.specs.Capped.{one_more}
use Rattle.mcs_verdict.specs.declared.finding.Finding.{Finding}
use Rattle.mcs_verdict.specs.declared.finding.Finding.TheVariants.{Miss, Overdue, Untaken, Lost, Never}
use Rattle.mcs_check_lines.specs.declared.counts.Counts.{Counts}

-- all counts are 0
abbrev pub no_counts : Counts
no_counts = record { missed = 0; overdue = 0; untaken = 0; lost = 0; never = 0; merged = 0; allowed = 0; hints = 0 }

-- a lost signal of a notification at which this is allowed
abbrev pub is_allowed : List Bool → Finding → Bool
is_allowed allowed (Lost note word) = get_or allowed note false
is_allowed allowed _ = false

-- the finding, unless it is an allowed lost signal
abbrev pub told_of : List Bool → Option Finding → Option Finding
told_of allowed None = None
told_of allowed (Some finding) = if is_allowed allowed finding then None else Some finding

-- one more finding
abbrev pub added : Finding → Counts → Counts
added (Miss thread number response deadline activated queued stood) counts = record counts { missed = one_more counts.missed }
added (Overdue thread number age deadline activated queued stood) counts = record counts { overdue = one_more counts.overdue }
added (Untaken note word age deadline set) counts = record counts { untaken = one_more counts.untaken }
added (Lost note word) counts = record counts { lost = one_more counts.lost }
added (Never thread deadline) counts = record counts { never = one_more counts.never }

-- one more finding, or one more allowed lost signal
abbrev pub taken : List Bool → Option Finding → Counts → Counts
taken allowed None counts = counts
taken allowed (Some finding) counts =
    if is_allowed allowed finding then record counts { allowed = one_more counts.allowed } else added finding counts

-- two counts as one
abbrev pub together : Counts → Counts → Counts
together a b =
    record {
      missed = capped (a.missed + b.missed);
      overdue = capped (a.overdue + b.overdue);
      untaken = capped (a.untaken + b.untaken);
      lost = capped (a.lost + b.lost);
      never = capped (a.never + b.never);
      merged = capped (a.merged + b.merged);
      allowed = capped (a.allowed + b.allowed);
      hints = capped (a.hints + b.hints);
    }

-- more hints
abbrev pub with_hints : ℕ → Counts → Counts
with_hints many counts = record counts { hints = capped (counts.hints + many) }
