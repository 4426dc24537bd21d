-- All cores take their turns of a moment.
use Rattle.std.proofs.Common.{◌≡◌, ℕ, suc, ◌+◌, List, ◌++◌, Result, Ok, Err, OnOk, sym, ap, ◌∙◌, append-nil, arith}
use Rattle.std.proofs.lemmas.List.{append_cancel_left}
use Rattle.mcs_ticks.specs.declared.row.Row.{Row}
use Rattle.mcs_system.specs.System.{System, TakesTime}
use Rattle.mcs_core.proofs.Clock.{rows-clock}
use Rattle.mcs_step.specs.Steps.{Steps, AreAfter, rows_so_far}
use Rattle.mcs_step.specs.Steps as steps
use Rattle.mcs_ever_search.specs.Together.{rows_at, rows_before}
use Rattle.mcs_ever_search.specs.stored.Lockstep.{IsBefore}

pub ok-both : {T E : Type 0} {P Q R : Type 0} (r : Result T E) → (P → Q → R) → OnOk r P → OnOk r Q → OnOk r R
ok-both (Ok x) f p q = f p q
ok-both (Err e) f p q = tt

-- the schedule grows by the rows of the moment
pub rows-after : (system : System) → TakesTime system → (t : ℕ) → rows_before system (t + 1) ≡ rows_before system t ++ rows_at system t
rows-after system takes_time t = let e : t + 1 ≡ suc t = omega arith in ap (rows_before system) e ∙ rows-clock system takes_time t

-- before the first turn at a moment, the rows so far are those of the schedule before it
pub rows-here : (s : Steps) → s.core ≡ 0 → rows_so_far s ≡ rows_before s.system s.moment
rows-here s none = ap (steps.rows_before s.system s.moment) none ∙ append-nil (rows_before s.system s.moment)

-- what comes between two moments are the rows of the first
pub rows-made : (before after : Steps) (rows : List Row) → TakesTime before.system → IsBefore before → after.system ≡ before.system → AreAfter before.moment after →
    rows_so_far before ++ rows ≡ rows_so_far after → rows ≡ rows_at before.system before.moment
rows-made before after rows takes_time first same ends e =
    append_cancel_left (rows_before before.system before.moment) rows (rows_at before.system before.moment)
    (ap (λ xs. xs ++ rows) (sym (rows-here before first.core_is)) ∙ e ∙ rows-here after ends.core_is
    ∙ ap (λ s. rows_before s after.moment) same ∙ ap (rows_before before.system) ends.moment_is ∙ rows-after before.system takes_time before.moment)
