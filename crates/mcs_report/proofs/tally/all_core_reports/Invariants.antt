use Rattle.std.proofs.Common.{◌≡◌, ◌≤◌, length, map, vec_capacity}
use Rattle.std.specs.List.{range_with_len}
use Rattle.mcs_report.specs.Reports.{core_report_of}
use Rattle.mcs_report.specs.Tally.{ran_by}
use Rattle.mcs_report.proofs.tally.all_core_reports.Given as goal

abbrev pub invariant-loop-core : goal.invariant-loop-core
invariant-loop-core l =
    (l.reports.items ≡ map (λ c. core_report_of l.horizon (ran_by l.horizon l.accounts c)) (range_with_len 0 l.core))
    × (length l.reports.items ≡ l.core)
    × (l.cores ≤ vec_capacity l.reports)
