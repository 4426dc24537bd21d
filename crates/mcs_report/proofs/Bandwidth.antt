-- How long a thread in bandwidth mode runs in a schedule, in any interval of one period.
use Rattle.std.proofs.Common.{◌≡◌, ℕ, zero, suc, ◌+◌, ◌-◌, ◌≤◌, cond, inl, inr, List, [], ◌∷◌, map, min, sym, ap, subst, ◌∙◌, append-nil, arith}
use Rattle.std.specs.Prelude.{flat_map, nat_le, sum}
use Rattle.std.proofs.lemmas.Bool.{cases_lt, le-leb, lt-leb}
use Rattle.std.proofs.lemmas.List.Elements.{filter-append}
use Rattle.mcs_ticks.specs.declared.row.Row.{Row}
use Rattle.mcs_ticks.specs.declared.row.What.{What}
use Rattle.mcs_control.specs.declared.config.Config.{Config}
use Rattle.mcs_system.specs.System.{System, thread_part}
use Rattle.mcs_system.specs.WellFormed.{IsWellFormed}
use Rattle.mcs_core.specs.Clock.{clock, turn_of, rows_of, schedule}
use Rattle.mcs_core.proofs.Clock.{rows-clock}
use Rattle.mcs_laws.specs.Turns.{cores}
use Rattle.mcs_laws.specs.Demand.{ticks_run}
use Rattle.mcs_laws.proofs.Histories.{takes-time}
use Rattle.mcs_laws.proofs.Bandwidth as clock_law
use Rattle.mcs_laws.proofs.Moments.{bound}
use Rattle.mcs_laws.proofs.Stretches.{files-in-force}
use Rattle.mcs_report.specs.Reports.{run_lengths}
use Rattle.mcs_report.specs.laws.Bandwidth.{rows_up_to, ticks_before, BandwidthIsBounded, FilesBoundBandwidth}
use Rattle.mcs_report.proofs.Ticks.{runs-ticks}

module _ (system : System) (well : IsWellFormed system) (m : ℕ) where
  -- the rows of one core's turn have one moment
  of-whats : (c t : ℕ) (whats : List What) → rows_up_to m (map (λ what. record { moment = t; core = c; what = what }) whats)
      ≡ cond (nat_le t m) (map (λ what. record { moment = t; core = c; what = what }) whats) []
  of-whats c t [] = grind arith
  of-whats c t (what ∷ whats) = grind (arith, of-whats c t whats)

  abbrev all-at : ℕ → List ℕ → List Row
  all-at t cs = flat_map (λ c. rows_of system c t) cs

  of-cores : (t : ℕ) (cs : List ℕ) → rows_up_to m (all-at t cs) ≡ cond (nat_le t m) (all-at t cs) []
  of-cores t [] = grind arith
  of-cores t (c ∷ cs) =
      grind (
        arith,
        filter-append (λ (row : Row). nat_le row.moment m) (rows_of system c t) (all-at t cs),
        of-whats c t (turn_of system c t).rows,
        of-cores t cs,
      )

  -- up to a moment the clock makes the same rows, however far it goes
  up-to : (t : ℕ) → rows_up_to m (clock system t).rows ≡ (clock system (min t (suc m))).rows
  up-to zero = let e : 0 ≡ min 0 (suc m) = omega arith in ap (λ n. (clock system n).rows) e
  up-to (suc t) =
      ap (rows_up_to m) (rows-clock system (takes-time system well) t)
      ∙ filter-append (λ (row : Row). nat_le row.moment m) (clock system t).rows (all-at t (cores system))
      ∙ elim (cases_lt m t) [
        | inl past ↦
            let same : min (suc t) (suc m) ≡ min t (suc m) = omega arith in
            rw (up-to t, of-cores t (cores system), lt-leb t m past, same) (append-nil _)
        | inr within ↦
            let before : min t (suc m) ≡ t = omega arith in
            let after : min (suc t) (suc m) ≡ suc t = omega arith in
            rw (up-to t, of-cores t (cores system), le-leb t m within, before, after) (sym (rows-clock system (takes-time system well) t))
      ]

  -- so the ticks that the rows of a longer schedule tell are those of the clock
  pub ticks-of : (x h : ℕ) → m ≤ h → ticks_before m x (schedule system h) ≡ ticks_run system x m
  ticks-of x h l =
      let e : min (suc h) (suc m) ≡ suc m = omega (arith, l) in
      ap (λ rows. sum (run_lengths m x rows)) (up-to (suc h) ∙ ap (λ n. (clock system n).rows) e) ∙ runs-ticks system well m x

pub bandwidth : BandwidthIsBounded
bandwidth system well h x from n is short within =
    omega (
      arith,
      ticks-of system well (from + n) x h within,
      ticks-of system well from x h (omega (arith, within)),
      clock_law.stretches-within-bandwidth system well x from n is short,
    )

pub without-orders : FilesBoundBandwidth
without-orders system well h rows bounded x from n has short within =
    let file = files-in-force system well (thread_part system x).context (suc from) (n - 1) (bound system well x has.known) has.unordered in
    subst (λ (c : Config). ticks_before (from + n) x rows ≤ ticks_before from x rows + c.budget) file.1
    (bounded x from n (record { known = has.known; mode = has.mode })
    (record { short = subst (λ (c : Config). n ≤ c.period) (sym file.1) short; unordered = file.0 }) within)
