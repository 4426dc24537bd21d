-- Overdue rounds among the findings of a thread at a horizon.
use Rattle.std.specs.Prelude.{Option, Some, None}
use Rattle.mcs_verdict.specs.declared.finding.Finding.{Finding}
use Rattle.mcs_verdict.specs.declared.finding.Finding.TheVariants.{Overdue}

-- the finding, if it is an overdue round
abbrev pub only_overdue : Option Finding → Option Finding
only_overdue (Some (Overdue thread number age deadline activated queued stood)) = Some (Overdue thread number age deadline activated queued stood)
only_overdue _ = None
