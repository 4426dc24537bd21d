-- The ticks that a thread ran, if each run is stopped before the next one.
use Rattle.std.proofs.Common.{◌≡◌, ℕ, ◌+◌, ◌-◌, true, false, cond, List, [], ◌∷◌, ◌++◌, fold, sum, Option, Some, None, refl, ap, ◌∙◌, arith}
use Rattle.std.proofs.lemmas.List.Sums.{sum_by-cons}
use Rattle.mcs_ticks.specs.declared.row.Row.{Row}
use Rattle.mcs_report.specs.declared.account.Account.{Account}
use Rattle.mcs_ticks.specs.Capped.{capped}
use Rattle.mcs_report.specs.Reports.{runs, stops, next_stop, run_lengths}
use Rattle.mcs_report.specs.Tally.{ticks_since, report_at}
use Rattle.mcs_report.specs.laws.Agreement.{StopsFirst, RunsApart}
use Rattle.mcs_report.proofs.Alone.{told_alone}

module _ (x : ℕ) where
  -- when the open run began, after a row and after several
  unfoldable pub next_since : Option ℕ → Row → Option ℕ
  next_since since r = cond (runs x r.what) (Some r.moment) (cond (stops x r.what) None since)

  unfoldable pub since_after : Option ℕ → List Row → Option ℕ
  since_after since [] = since
  since_after since (r ∷ rows) = since_after (next_since since r) rows

  -- the ticks of the runs that end in these rows
  unfoldable pub ticks_at : Option ℕ → Row → ℕ
  ticks_at since r = cond (stops x r.what) (ticks_since r.moment since) 0

  unfoldable pub ran_in : Option ℕ → List Row → ℕ
  ran_in since [] = 0
  ran_in since (r ∷ rows) = ticks_at since r + ran_in (next_since since r) rows

  pub since-append : (since : Option ℕ) (rows more : List Row) → since_after since (rows ++ more) ≡ since_after (since_after since rows) more
  unfolding since_after
  since-append since [] more = refl
  since-append since (r ∷ rows) more = since-append (next_since since r) rows more

  pub ran-append : (since : Option ℕ) (rows more : List Row) → ran_in since (rows ++ more) ≡ ran_in since rows + ran_in (since_after since rows) more
  unfolding since_after ran_in
  ran-append since [] more = omega arith
  ran-append since (r ∷ rows) more = omega (arith, ran-append (next_since since r) rows more)

  -- so it is in the account
  since-row : (h m : ℕ) (r : Row) (a : Account) → (told_alone h x a r).since ≡ next_since a.since r
  unfolding next_since
  since-row h m r a = grind arith

  since-fold : (h : ℕ) (rows : List Row) (a : Account) → (fold (told_alone h x) a rows).since ≡ since_after a.since rows
  unfolding since_after
  since-fold h [] a = refl
  since-fold h (r ∷ rows) a = since-fold h rows (told_alone h x a r) ∙ ap (λ since. since_after since rows) (since-row h r.moment r a)

  ran-row : (h : ℕ) (r : Row) (a : Account) (k : ℕ) → capped ((told_alone h x a r).report.ran + k) ≡ capped (a.report.ran + ticks_at a.since r + k)
  unfolding ticks_at
  ran-row h r a k = grind arith

  ran-rows : (h : ℕ) (rows : List Row) (a : Account) (k : ℕ) → capped ((fold (told_alone h x) a rows).report.ran + k) ≡ capped (a.report.ran + ran_in a.since rows + k)
  unfolding ran_in
  ran-rows h [] a k = omega arith
  ran-rows h (r ∷ rows) a k =
      let b = told_alone h x a r in
      omega (arith, ran-rows h rows b k, ran-row h r a (ran_in (next_since a.since r) rows + k), ap (λ since. ran_in since rows) (since-row h r.moment r a))

-- the rest of the open run
abbrev pub open_run : ℕ → ℕ → Option ℕ → List Row → ℕ
open_run h x None rows = 0
open_run h x (Some begin) rows = next_stop h x rows - begin

-- an open run is stopped first
abbrev pub IsOpen : ℕ → Option ℕ → List Row → Type 0
IsOpen x None rows = Unit {0}
IsOpen x (Some begin) rows = StopsFirst x rows

-- the length of each run, if a row begins one, and if none does
run_lengths-run : (h x : ℕ) (r : Row) (rows : List Row) → runs x r.what ≡ true
    → sum (run_lengths h x (r ∷ rows)) ≡ (next_stop h x rows - r.moment) + sum (run_lengths h x rows)
run_lengths-run h x r rows e = rw e (sum_by-cons (λ y. y) (next_stop h x rows - r.moment) (run_lengths h x rows))

not_open : (x : ℕ) (since : Option ℕ) (r : Row) (rows : List Row) → runs x r.what ≡ true → IsOpen x since (r ∷ rows) → since ≡ None
not_open x None r rows e was_open = refl
not_open x (Some begin) r rows e was_open = let no = was_open.0 in cc

still_open : (x : ℕ) (since : Option ℕ) (r : Row) (rows : List Row) → stops x r.what ≡ false → IsOpen x since (r ∷ rows) → IsOpen x since rows
still_open x None r rows e was_open = tt
still_open x (Some begin) r rows e was_open = was_open.1 e

-- the runs of rows: those that end in them, and the open one, which lasts to the horizon
pub total : (h x : ℕ) (since : Option ℕ) (rows : List Row) → RunsApart x rows → IsOpen x since rows
    → open_run h x since rows + sum (run_lengths h x rows) ≡ ran_in x since rows + ticks_since h (since_after x since rows)
unfolding since_after ran_in next_since ticks_at
total h x None [] apart was_open = refl
total h x (Some begin) [] apart was_open = omega arith
total h x since (r ∷ rows) apart was_open =
    grind (
      arith,
      run_lengths-run h x r rows,
      λ (e : runs x r.what ≡ true). not_open x since r rows e was_open,
      λ (e : runs x r.what ≡ true). total h x (Some r.moment) rows apart.1 (apart.0 e),
      total h x None rows apart.1 tt,
      λ (f : stops x r.what ≡ false). total h x since rows apart.1 (still_open x since r rows f was_open),
    )

pub ran-fold : (h x : ℕ) (rows : List Row) (a : Account) → RunsApart x rows → IsOpen x a.since rows
    → (report_at h (fold (told_alone h x) a rows)).ran ≡ capped (a.report.ran + open_run h x a.since rows + sum (run_lengths h x rows))
ran-fold h x rows a apart was_open =
    let b = fold (told_alone h x) a rows in
    omega (arith, ran-rows x h rows a (ticks_since h b.since), ap (ticks_since h) (since-fold x h rows a), total h x a.since rows apart was_open)
