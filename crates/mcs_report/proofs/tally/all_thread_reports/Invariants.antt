use Rattle.std.proofs.Common.{◌≡◌, ◌≤◌, length, map, take, vec_capacity}
use Rattle.mcs_report.specs.Tally.{report_at}
use Rattle.mcs_report.proofs.tally.all_thread_reports.Given as goal

abbrev pub invariant-loop-account : goal.invariant-loop-account
invariant-loop-account l =
    (l.reports.items ≡ map (report_at l.horizon) (take l.account-index l.accounts)) × (length l.accounts ≤ vec_capacity l.reports)
