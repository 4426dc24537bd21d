-- The ticks in which a thread stands running are those of its runs.
use Rattle.std.proofs.Common.{◌≡◌, ℕ, zero, suc, ◌+◌, ◌-◌, ◌<◌, ◌≤◌, Bool, true, false, List, [], ◌∷◌, length, get_or, refl, sym, ap, ◌∙◌, arith}
use Rattle.std.specs.Prelude.{nat_lt}
use Rattle.mcs_ticks.specs.declared.row.Row.{Row}
use Rattle.mcs_system.specs.declared.part.ThreadPart.{ThreadPart}
use Rattle.mcs_system.specs.System.{System, no_thread, thread_part, core_of}
use Rattle.mcs_system.specs.WellFormed.{IsWellFormed}
use Rattle.mcs_core.specs.Clock as clocks
use Rattle.mcs_laws.specs.Places.{times_running}
use Rattle.mcs_laws.specs.Demand.{ticks_run}
use Rattle.mcs_report.specs.declared.reports.ThreadReport.{ThreadReport}
use Rattle.mcs_ticks.specs.Capped.{capped}
use Rattle.mcs_report.specs.Reports.{thread_report, thread_reports}
use Rattle.mcs_report.specs.Tally.{no_report}
use Rattle.mcs_report.proofs.Ticks.{runs-ticks}
use Rattle.mcs_verdict.specs.declared.standing.Standing.{Standing}
use Rattle.mcs_verdict.specs.declared.standing.Standing.TheVariants.{Pending, Ready, Running, Throttled, Blocked, AtServer, Done}
use Rattle.mcs_verdict.specs.declared.standing.Stood.{Stood}
use Rattle.mcs_verdict.specs.Findings.{past_of}
use Rattle.mcs_verdict.specs.Standing.{telling, standing_at}
use Rattle.mcs_verdict.specs.Stood.{counted, stood_for}
use Rattle.mcs_verdict_laws.specs.laws.Running.{RunningIsRan}
use Rattle.mcs_verdict_laws.proofs.Holds.{runs_as}
use Rattle.mcs_verdict_laws.proofs.Opening.{opening_as}
use Rattle.mcs_verdict_laws.proofs.Reached.{after}
use Rattle.mcs_verdict_laws.proofs.Standings.{said, rows_of_tick, up_to_tick, tick_told}

-- a tick of this standing more
running_counted : (s : Standing) (stood : Stood) → (counted s 1 stood).running ≡ stood.running + runs_as s
running_counted Pending stood = omega arith
running_counted Ready stood = omega arith
running_counted Running stood = omega arith
running_counted Throttled stood = omega arith
running_counted Blocked stood = omega arith
running_counted AtServer stood = omega arith
running_counted Done stood = omega arith

-- a thread that the system has not does not run
any_opening : (system : System) (x : ℕ) (b : Bool) (rows : List Row) → runs_as (said Pending rows) ≡ runs_as (said (opening_as system x b) rows)
any_opening system x true rows = refl
any_opening system x false [] = refl
any_opening system x false (r ∷ rows) = refl

module _ (system : System) (well : IsWellFormed system) (x horizon : ℕ) where
  runs_in_tick : (t : ℕ) → t ≤ horizon → runs_as (standing_at t (telling x (past_of [] (clocks.schedule system horizon))))
      ≡ times_running x (clocks.core_at system (clocks.world system (suc t)) (core_of system (thread_part system x))).running
  runs_in_tick t within =
      let h = after system well x t in
      ap runs_as (tick_told system well x horizon t within)
      ∙ any_opening system x (nat_lt x (length system.threads)) (rows_of_tick system well x t)
      ∙ ap runs_as (up_to_tick system well x t)
      ∙ sym h.runs

  counts : (n : ℕ) → n ≤ horizon → (stood_for (telling x (past_of [] (clocks.schedule system horizon))) 0 n).running ≡ ticks_run system x n
  counts zero h = refl
  counts (suc n) h =
      let rows = telling x (past_of [] (clocks.schedule system horizon)) in
      let tick : runs_as (standing_at (0 + n) rows) ≡ runs_as (standing_at n rows) = ap (λ m. runs_as (standing_at m rows)) (omega arith) in
      omega (
        arith,
        running_counted (standing_at (0 + n) rows) (stood_for rows 0 n),
        counts n (omega (arith, h)),
        tick,
        runs_in_tick n (omega (arith, h)),
      )

  counts_all : (stood_for (telling x (past_of [] (clocks.schedule system horizon))) 0 (horizon - 0)).running ≡ ticks_run system x horizon
  counts_all =
      let all : horizon - 0 ≡ horizon = omega arith in
      ap (λ n. (stood_for (telling x (past_of [] (clocks.schedule system horizon))) 0 n).running) all ∙ counts horizon (omega arith)

-- the report of a thread
report-at : (h : ℕ) (rows : List Row) (n : ℕ) (threads : List ThreadPart) (x number : ℕ) → x < length threads → n + x ≡ number
    → get_or (thread_reports h rows n threads) x no_report ≡ thread_report h rows number (get_or threads x no_thread).deadline
report-at h rows n [] x number known e = absurd (omega (arith, known))
report-at h rows n (thread ∷ threads) zero number known e =
    let same : n ≡ number = omega (arith, e) in ap (λ i. thread_report h rows i thread.deadline) same
report-at h rows n (thread ∷ threads) (suc x) number known e = report-at h rows (suc n) threads x number (omega (arith, known)) (omega (arith, e))

pub running_ran : RunningIsRan
running_ran system well horizon x =
    let runs = counts_all system well x horizon ∙ sym (runs-ticks system well horizon x) in
    record {
      runs = runs;
      reported = λ known.
          ap (λ (r : ThreadReport). r.ran) (report-at horizon (clocks.schedule system horizon) 0 system.threads x x known (omega arith))
          ∙ ap capped (sym runs);
    }
