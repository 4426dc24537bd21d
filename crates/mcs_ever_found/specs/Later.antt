-- Findings and rounds that ended, later: each time is later by as many ticks.
use Rattle.std.specs.Prelude.{◌+◌}
use Rattle.mcs_verdict.specs.declared.finding.Finding.{Finding}
use Rattle.mcs_verdict.specs.declared.finding.Finding.TheVariants.{Miss, Overdue, Untaken, Lost, Never}
use Rattle.mcs_verdict.specs.declared.finding.Found.{Found}
use Rattle.mcs_verdict.specs.declared.job.Job.{Job}
use Rattle.mcs_ever.specs.Later.{Shift, more_rounds}
use Rattle.mcs_ever.specs.Recurs.{Shifts, shift_of}

-- a round that ended: its number is higher, and its response and its parts are the same
abbrev pub later_job : Shift → Job → Job
later_job shift job =
    record job {
      number = more_rounds (shift.rounds job.thread) job.number;
      activated = job.activated + shift.by;
      begun = job.begun + shift.by;
      ended = job.ended + shift.by;
    }

-- a finding: the number of its round is higher
abbrev pub later_finding : Shift → Finding → Finding
later_finding shift (Miss thread number response deadline activated queued stood) =
    Miss thread (more_rounds (shift.rounds thread) number) response deadline (activated + shift.by) queued stood
later_finding shift (Overdue thread number age deadline activated queued stood) =
    Overdue thread (more_rounds (shift.rounds thread) number) age deadline (activated + shift.by) queued stood
later_finding shift (Untaken note word age deadline set) = Untaken note word age deadline (set + shift.by)
later_finding shift (Lost note word) = Lost note word
later_finding shift (Never thread deadline) = Never thread deadline

abbrev pub later_found : Shifts → Found → Found
later_found shifts found =
    record {
      moment = found.moment + shifts.by;
      core = found.core;
      finding = later_finding (shift_of shifts found.core) found.finding;
    }
