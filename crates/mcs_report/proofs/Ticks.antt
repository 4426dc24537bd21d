-- The runs of a thread in a schedule last as many ticks as there are in which it runs.
use Rattle.std.proofs.Common.{◌≡◌, ℕ, zero, suc, ◌+◌, ◌<◌, ◌≤◌, Bool, true, false, cond, List, [], ◌∷◌, ◌++◌, map, sum, Option, Some, None, refl, sym, ap, subst, ◌∙◌, arith}
use Rattle.std.specs.Prelude.{flat_map, is_some}
use Rattle.std.specs.List.{range_with_len, AllByRecursion}
use Rattle.std.proofs.lemmas.Bool.{cond_both}
use Rattle.std.proofs.lemmas.Bool.Decides.{nat_tests}
use Rattle.mcs_ticks.specs.declared.row.Row.{Row}
use Rattle.mcs_ticks.specs.declared.row.What.{What}
use Rattle.mcs_core.specs.declared.standing.Chosen.{Chosen}
use Rattle.mcs_system.proofs.Linked.{takes_time}
use Rattle.mcs_system.specs.System.{System, TakesTime}
use Rattle.mcs_core.specs.Clock as clocks
use Rattle.mcs_core.proofs.Clock.{rows-clock}
use Rattle.mcs_laws.specs.Places.{times_running}
use Rattle.mcs_laws.specs.Demand.{ticks_run}
use Rattle.mcs_report.specs.Reports.{runs, stops, run_lengths}
use Rattle.mcs_report.specs.Tally.{ticks_since}
use Rattle.mcs_report.specs.laws.Demand.{RunsAreTicks}
use Rattle.mcs_report.proofs.Runs.{next_since, since_after, ticks_at, ran_in, since-append, ran-append, total}
use Rattle.mcs_report.proofs.Walks.{Walks, is_open, after_row}
use Rattle.mcs_laws.proofs.Homes.{one_if, own_core, own_core_known}
use Rattle.mcs_report.proofs.Schedules.{whats, going, rows_from, apart-walks, walks-from, walks-clock}

module _ (x : ℕ) where
  -- whether a run is open is what the walk says
  open-next : (since : Option ℕ) (r : Row) → is_some (next_since x since r) ≡ after_row x r.what (is_some since)
  unfolding next_since
  open-next since r = grind arith

  open-after : (since : Option ℕ) (rows : List Row) (last : Bool) → Walks x (is_some since) (whats rows) last → is_some (since_after x since rows) ≡ last
  unfolding since_after
  open-after since [] last walks = walks
  open-after since (r ∷ rows) last walks =
      open-after (next_since x since r) rows last (subst (λ (b : Bool). Walks x b (whats rows) last) (sym (open-next since r)) walks.1)

  -- an open run began at this moment or before
  IsBegun : ℕ → Option ℕ → Type 0
  IsBegun t None = Unit {0}
  IsBegun t (Some begin) = begin ≤ t

  -- rows of one moment
  abbrev AreOf : ℕ → List Row → Type 0
  AreOf t rows = AllByRecursion (λ (r : Row). r.moment ≡ t) rows

  begun-next : (t : ℕ) (since : Option ℕ) (r : Row) → r.moment ≡ t → IsBegun t since → IsBegun t (next_since x since r)
  unfolding IsBegun next_since
  begun-next t since r e h =
      cond_both (runs x r.what) (Some r.moment) (cond (stops x r.what) None since) (IsBegun t) (λ run. omega (arith, e))
      (λ run. cond_both (stops x r.what) None since (IsBegun t) (λ stop. tt) (λ stop. h))

  begun-after : (t : ℕ) (since : Option ℕ) (rows : List Row) → AreOf t rows → IsBegun t since → IsBegun t (since_after x since rows)
  unfolding since_after
  begun-after t since [] h b = b
  begun-after t since (r ∷ rows) h b = begun-after t (next_since x since r) rows h.1 (begun-next t since r h.0 b)

  begun-later : (t : ℕ) (since : Option ℕ) → IsBegun t since → IsBegun (suc t) since
  unfolding IsBegun
  begun-later t None b = tt
  begun-later t (Some begin) b = omega (arith, b)

  -- a row of the moment ends or begins a run there: no tick more
  no-ticks : (t : ℕ) (since : Option ℕ) (r : Row) → r.moment ≡ t → (runs x r.what ≡ true → is_some since ≡ false) →
      ticks_at x since r + ticks_since t (next_since x since r) ≡ ticks_since t since
  unfolding ticks_at next_since
  no-ticks t since r e h = grind (arith, nat_tests, e, h)

  same-ticks : (t : ℕ) (since : Option ℕ) (rows : List Row) (last : Bool) → AreOf t rows → Walks x (is_some since) (whats rows) last →
      ran_in x since rows + ticks_since t (since_after x since rows) ≡ ticks_since t since
  unfolding since_after ran_in
  same-ticks t since [] last h walks = omega arith
  same-ticks t since (r ∷ rows) last h walks =
      omega (arith, no-ticks t since r h.0 walks.0, same-ticks t (next_since x since r) rows last h.1 (subst (λ (b : Bool). Walks x b (whats rows) last) (sym (open-next since r)) walks.1))

  -- from one moment to the next an open run lasts one tick more
  tick-more : (t : ℕ) (since : Option ℕ) → IsBegun t since → ticks_since (suc t) since ≡ ticks_since t since + one_if (is_some since)
  unfolding IsBegun
  tick-more t None b = omega arith
  tick-more t (Some begin) b = omega (arith, b)

rows-of : (t c : ℕ) (told : List What) (more : List Row) → AllByRecursion (λ (r : Row). r.moment ≡ t) more →
    AllByRecursion (λ (r : Row). r.moment ≡ t) (map (λ what. record { moment = t; core = c; what = what }) told ++ more)
rows-of t c [] more h = h
rows-of t c (what ∷ told) more h = (refl, rows-of t c told more h)

module _ (system : System) (takes_time : TakesTime system) (x : ℕ) (known : own_core system x < system.cores) where
  rows_at : ℕ → List Row
  rows_at t = rows_from system takes_time x t 0 system.cores

  are-of : (t n a : ℕ) → AllByRecursion (λ (r : Row). r.moment ≡ t) (flat_map (λ c. clocks.rows_of system c t) (range_with_len a n))
  are-of t zero a = tt
  are-of t (suc n) a = rows-of t a (clocks.turn_of system a t).rows (flat_map (λ c. clocks.rows_of system c t) (range_with_len (a + 1) n)) (are-of t n (a + 1))

  rows-more : (t : ℕ) → (clocks.clock system (suc t)).rows ≡ (clocks.clock system t).rows ++ rows_at t
  unfolding rows_at rows_from
  rows-more t = rows-clock system takes_time t

  walks-now : (t : ℕ) → Walks x (going system takes_time x t (own_core system x)) (whats (rows_at t)) (going system takes_time x (suc t) (own_core system x))
  unfolding rows_at
  walks-now t = walks-from system takes_time x t system.cores 0 (omega arith) (omega (arith, known)) (omega arith)

  since : ℕ → Option ℕ
  since t = since_after x None (clocks.clock system t).rows

  is-open : (t : ℕ) → is_some (since t) ≡ going system takes_time x t (own_core system x)
  unfolding since
  is-open t = open-after x None (clocks.clock system t).rows _ (walks-clock system takes_time x known t)

  walks-open : (t : ℕ) → Walks x (is_some (since t)) (whats (rows_at t)) (going system takes_time x (suc t) (own_core system x))
  walks-open t = let P : Bool → Type 0 = λ b. Walks x b (whats (rows_at t)) (going system takes_time x (suc t) (own_core system x)) in subst P (sym (is-open t)) (walks-now t)

  since-next : (t : ℕ) → since (suc t) ≡ since_after x (since t) (rows_at t)
  unfolding since
  since-next t = ap (since_after x None) (rows-more t) ∙ since-append x None (clocks.clock system t).rows (rows_at t)

  ran-next : (t : ℕ) → ran_in x None (clocks.clock system (suc t)).rows ≡ ran_in x None (clocks.clock system t).rows + ran_in x (since t) (rows_at t)
  unfolding since
  ran-next t = ap (ran_in x None) (rows-more t) ∙ ran-append x None (clocks.clock system t).rows (rows_at t)

  begun : (t : ℕ) → IsBegun x t (since t)
  unfolding since since_after IsBegun rows_at rows_from
  begun zero = tt
  begun (suc t) =
      subst (IsBegun x (suc t)) (sym (since-next t)) (begun-later x t (since_after x (since t) (rows_at t)) (begun-after x t (since t) (rows_at t) (are-of t system.cores 0) (begun t)))

  -- what ran in the rows before a moment, with the open run
  ran-now : (t : ℕ) → ran_in x None (clocks.clock system (suc t)).rows + ticks_since t (since (suc t)) ≡ ran_in x None (clocks.clock system t).rows + ticks_since t (since t)
  unfolding rows_at rows_from
  ran-now t =
      omega (
        arith,
        ran-next t,
        ap (ticks_since t) (since-next t),
        same-ticks x t (since t) (rows_at t) _ (are-of t system.cores 0) (walks-open t),
      )

  runs-if : (o : Option Chosen) → one_if (is_open x o) ≡ times_running x o
  runs-if None = refl
  runs-if (Some chosen) = refl

  counted : (t : ℕ) → ran_in x None (clocks.clock system t).rows + ticks_since t (since t) ≡ ticks_run system x t
  unfolding since since_after ran_in own_core going rows_at rows_from
  counted zero = refl
  counted (suc t) =
      omega (
        arith,
        counted t,
        ran-now t,
        tick-more x t (since (suc t)) before,
        ap one_if (is-open (suc t)),
        runs-if (clocks.core_shown system (clocks.world system (suc t)) (own_core system x)).running,
      )
    where
      before : IsBegun x t (since (suc t))
      before =
          subst (IsBegun x t) (sym (since-next t)) (begun-after x t (since t) (rows_at t) (are-of t system.cores 0) (begun t))

  ticks : (h : ℕ) → sum (run_lengths h x (clocks.schedule system h)) ≡ ticks_run system x h
  unfolding since
  ticks h =
      let apart = (apart-walks x (clocks.schedule system h) false _ (walks-clock system takes_time x known (suc h))).0 in
      omega (arith, total h x None (clocks.schedule system h) apart tt, ran-now h, counted h)

pub runs-ticks : RunsAreTicks
runs-ticks system well h x = ticks system (takes_time system well) x (own_core_known system well x) h
