-- A bound on how long a thread runs in a schedule, also in its report.
use Rattle.std.proofs.Common.{◌≡◌, ℕ, zero, suc, ◌+◌, ◌<◌, List, [], ◌∷◌, length, get_or, ap, arith}
use Rattle.mcs_ticks.specs.declared.row.Row.{Row}
use Rattle.mcs_system.specs.declared.part.ThreadPart.{ThreadPart}
use Rattle.mcs_system.specs.System.{System, no_thread}
use Rattle.mcs_system.specs.WellFormed.{IsWellFormed}
use Rattle.mcs_core.specs.Clock.{schedule}
use Rattle.mcs_laws.proofs.Demand.{within-demand}
use Rattle.mcs_report.specs.declared.reports.ThreadReport.{ThreadReport}
use Rattle.mcs_report.specs.Reports.{thread_report, thread_reports, reports_of}
use Rattle.mcs_report.specs.Tally.{no_report}
use Rattle.mcs_report.specs.laws.Demand.{RunsAreWithinDemand, AreWithinDemand, DemandIsBounded}
use Rattle.mcs_report.proofs.Ticks.{runs-ticks}

-- the report of a thread
report-at : (h : ℕ) (rows : List Row) (n : ℕ) (threads : List ThreadPart) (x number : ℕ) → x < length threads → n + x ≡ number →
    get_or (thread_reports h rows n threads) x no_report ≡ thread_report h rows number (get_or threads x no_thread).deadline
report-at h rows n [] x number known e = absurd (omega (arith, known))
report-at h rows n (thread ∷ threads) zero number known e = let same : n ≡ number = omega (arith, e) in ap (λ i. thread_report h rows i thread.deadline) same
report-at h rows n (thread ∷ threads) (suc x) number known e = report-at h rows (suc n) threads x number (omega (arith, known)) (omega (arith, e))

module _ (system : System) (well : IsWellFormed system) (h : ℕ) where
  runs : RunsAreWithinDemand system h (schedule system h)
  runs x known unordered = omega (arith, runs-ticks system well h x, within-demand system well x h known unordered)

  reports : AreWithinDemand system h (reports_of system h (schedule system h))
  reports x known unordered =
      omega (
        arith,
        ap (λ (r : ThreadReport). r.ran) (report-at h (schedule system h) 0 system.threads x x known (omega arith)),
        runs x known unordered,
      )

pub demand : DemandIsBounded
demand system well h = (runs system well h, reports system well h)
