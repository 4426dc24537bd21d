-- Facts of the whole schedule and its reports.
use Rattle.std.proofs.Common.{◌≡◌, ℕ, List, suc, ap, ◌∙◌, sym, subst}
use Rattle.std.specs.Prelude.{fold, sum}
use Rattle.mcs_system.specs.System.{System}
use Rattle.mcs_system.specs.WellFormed.{IsWellFormed}
use Rattle.mcs_core.specs.Clock.{schedule}
use Rattle.mcs_ticks.specs.declared.row.Row.{Row}
use Rattle.mcs_report.specs.declared.reports.Reports.{Reports}
use Rattle.mcs_report.specs.Reports.{reports_of}
use Rattle.mcs_report.specs.Tally.{Tally, added, finished, opened_tally}
use Rattle.mcs_report.specs.laws.Demand.{DemandIsBounded, AreWithinDemand}
use Rattle.mcs_report.specs.laws.Schedules.{SchedulesAreReported}
use Rattle.mcs_window.proofs.Shown.{views-shown}
use Rattle.mcs_laws.specs.Slices.{charges_in}
use Rattle.mcs_laws.proofs.Slices.{slices-spent}
use Rattle.mcs_laws.proofs.Told.{schedules-tell}
use Rattle.mcs_team.specs.Headline.{Headline}

-- all rows of the schedule were counted, from the first
pub reported : (system : System) (horizon : ℕ) (start tally : Tally) (reports : Reports) → SchedulesAreReported → IsWellFormed system → start ≡ opened_tally system horizon →
    tally ≡ fold added start (schedule system horizon) → reports ≡ finished tally → reports ≡ reports_of system horizon (schedule system horizon)
reported system horizon start tally reports law ok opened counted result =
    result ∙ ap finished (counted ∙ ap (λ first. fold added first (schedule system horizon)) opened) ∙ law system ok horizon

pub within : (system : System) (horizon : ℕ) (reports : Reports) → DemandIsBounded → IsWellFormed system → reports ≡ reports_of system horizon (schedule system horizon) → AreWithinDemand system horizon reports
within system horizon reports bounded ok is = subst (AreWithinDemand system horizon) (sym is) (bounded system ok horizon).1

pub whole-headline : (system : System) (horizon : ℕ) (rows : List Row) (reports : Reports) → IsWellFormed system → rows ≡ schedule system horizon →
    reports ≡ reports_of system horizon (schedule system horizon) → Headline system horizon rows reports
whole-headline system horizon rows reports ok are is =
    record {
      rows_are = are;
      reports_are = is ∙ ap (reports_of system horizon) (sym are);
      budgets = λ t l. views-shown system ok (λ c. suc t);
      slices = λ context from moments has l one.
          ap (λ rs. sum (charges_in system context from moments rs)) are ∙ ap sum (schedules-tell system ok context from moments horizon has.known l)
          ∙ slices-spent system ok context from moments has one;
    }
