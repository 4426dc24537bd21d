-- In a schedule each run of a thread is stopped before the next one.
use Rattle.std.proofs.Common.{◌≡◌, ◌≢◌, ℕ, zero, suc, ◌+◌, ◌<◌, ◌≤◌, Bool, true, false, cond, inl, inr, List, [], ◌∷◌, ◌++◌, map, Option, refl, sym, ap, subst, ◌∙◌, arith}
use Rattle.std.specs.Prelude.{filter, flat_map}
use Rattle.std.specs.List.{range_with_len}
use Rattle.std.proofs.lemmas.Bool.Decides.{nat_tests}
use Rattle.std.proofs.lemmas.Bool.{cases_lt}
use Rattle.std.proofs.lemmas.List.{map-append}
use Rattle.std.proofs.lemmas.List.FromFn.{get_or-map-range_with_len}
use Rattle.mcs_ticks.specs.declared.row.Row.{Row}
use Rattle.mcs_ticks.specs.declared.row.What.{What}
use Rattle.mcs_core.specs.declared.standing.Chosen.{Chosen}
use Rattle.mcs_system.proofs.Linked.{takes_time}
use Rattle.mcs_system.specs.System.{System, TakesTime}
use Rattle.mcs_core.specs.Core.{Core, opening_core}
use Rattle.mcs_core.specs.Turn.{Turn}
use Rattle.mcs_core.specs.Clock as clocks
use Rattle.mcs_core.proofs.Clock.{turn_of-kept, core_shown-world, core_shown-kept, rows-clock}
use Rattle.mcs_laws.specs.Places.{times_running, places}
use Rattle.mcs_laws.proofs.Homes.{own_core, own_core_known, away}
use Rattle.mcs_report.specs.Reports.{runs, stops}
use Rattle.mcs_report.specs.laws.Agreement.{StopsFirst, RunsApart}
use Rattle.mcs_report.specs.laws.Schedules.{SchedulesRunApart, SchedulesAreReported}
use Rattle.mcs_report.proofs.Agree.{agree}
use Rattle.mcs_report.proofs.Walks.{Walks, plain, is_open, after_row, walks-append, walks-plain, turn-turns}

abbrev pub whats : List Row → List What
whats rows = map (λ r. r.what) rows

-- rows through which a thread walks keep its runs apart
pub apart-walks : (x : ℕ) (rows : List Row) (before last : Bool) → Walks x before (whats rows) last → RunsApart x rows × (before ≡ true → StopsFirst x rows)
apart-walks x [] before last walks = (tt, λ e. tt)
apart-walks x (r ∷ rows) before last walks =
    let rest = apart-walks x rows (after_row x r.what before) last walks.1 in
    let began : runs x r.what ≡ true → after_row x r.what before ≡ true = λ e. ap (λ b. cond b true (cond (stops x r.what) false before)) e in (
      (λ e. rest.1 (began e), rest.0),
      λ e. (grind (arith, e, walks.0), λ f. rest.1 (grind (arith, e, f))),
    )

-- a thread that has no place on a core does not run there
shut : (x : ℕ) (running : Option Chosen) → times_running x running ≡ 0 → is_open x running ≡ false
shut x running e = grind (arith, nat_tests)

pub absent : (x : ℕ) (k : Core) → places x k ≡ 0 → is_open x k.running ≡ false
absent x k e = shut x k.running (omega arith)

module _ (system : System) (takes_time : TakesTime system) (x : ℕ) where
  unfoldable pub going : ℕ → ℕ → Bool
  going t c = is_open x (clocks.core_shown system (clocks.world system t) c).running

  -- the turn of core c at t
  turn-walks : (t c : ℕ) → c < system.cores → Walks x (going t c) (clocks.turn_of system c t).rows (going (suc t) c)
  unfolding going
  turn-walks t c known =
      subst (λ (k : Core). Walks x (going t c) (clocks.turn_of system c t).rows (is_open x k.running)) (sym (core_shown-world system takes_time t c known))
      (subst (λ (made : Turn). Walks x (going t c) made.rows (is_open x made.core.running)) (sym (turn_of-kept system c t))
      (turn-turns system c t x (filter (clocks.arrives_at system t c) (clocks.world system t).mails) (clocks.core_shown system (clocks.world system t) c)).walks)

  pub turn-plain : (t c : ℕ) → c < system.cores → c ≢ own_core system x → plain x (clocks.turn_of system c t).rows ≡ true
  turn-plain t c known other =
      let turn = turn-turns system c t x (filter (clocks.arrives_at system t c) (clocks.world system t).mails) (clocks.core_shown system (clocks.world system t) c) in
      let after = absent x (clocks.core_shown system (clocks.world system (suc t)) c) (away system takes_time x (suc t) c known other) in
      subst (λ (made : Turn). plain x made.rows ≡ true) (sym (turn_of-kept system c t))
      (turn.plain
      (absent x (clocks.core_shown system (clocks.world system t) c) (away system takes_time x t c known other))
      (subst (λ (k : Core). is_open x k.running ≡ false) (core_shown-kept system takes_time t c known) after))

  same_whats : (t c : ℕ) (ws : List What) → whats (map (λ what. record { moment = t; core = c; what = what }) ws) ≡ ws
  same_whats t c [] = refl
  same_whats t c (w ∷ ws) = ap (λ us. w ∷ us) (same_whats t c ws)

  whats-rows : (t c : ℕ) (rest : List Row) → whats (clocks.rows_of system c t ++ rest) ≡ (clocks.turn_of system c t).rows ++ whats rest
  whats-rows t c rest =
      map-append (λ (r : Row). r.what) (clocks.rows_of system c t) rest
      ∙ ap (λ ws. ws ++ whats rest) (same_whats t c (clocks.turn_of system c t).rows)

  -- the rows of the cores from a on, n of them
  unfoldable pub rows_from : ℕ → ℕ → ℕ → List Row
  rows_from t a n = flat_map (λ c. clocks.rows_of system c t) (range_with_len a n)

  -- past the thread's own core
  walks-past : (t n a : ℕ) → own_core system x < a → a + n ≤ system.cores → (b : Bool) → Walks x b (whats (rows_from t a n)) b
  unfolding rows_from
  walks-past t zero a past within b = refl
  walks-past t (suc n) a past within b =
      subst (λ (ws : List What). Walks x b ws b) (sym (whats-rows t a (flat_map (λ c. clocks.rows_of system c t) (range_with_len (a + 1) n))))
      (walks-append x (clocks.turn_of system a t).rows (whats (flat_map (λ c. clocks.rows_of system c t) (range_with_len (a + 1) n))) b b b
      (walks-plain x (clocks.turn_of system a t).rows b (turn-plain t a (omega arith) (λ e. omega arith)))
      (walks-past t n (a + 1) (omega arith) (omega arith) b))

  -- and from before it
  pub walks-from : (t n a : ℕ) → a ≤ own_core system x → own_core system x < a + n → a + n ≤ system.cores
      → Walks x (going t (own_core system x)) (whats (rows_from t a n)) (going (suc t) (own_core system x))
  unfolding rows_from
  walks-from t zero a before after within = absurd (omega arith)
  walks-from t (suc n) a before after within =
      subst (λ (ws : List What). Walks x (going t (own_core system x)) ws (going (suc t) (own_core system x))) (sym (whats-rows t a (flat_map (λ c. clocks.rows_of system c t) (range_with_len (a + 1) n))))
      (elim (cases_lt a (own_core system x)) [
        | inl less ↦
            walks-append x (clocks.turn_of system a t).rows _ (going t (own_core system x)) (going t (own_core system x)) (going (suc t) (own_core system x))
            (walks-plain x (clocks.turn_of system a t).rows (going t (own_core system x)) (turn-plain t a (omega arith) (λ e. omega arith)))
            (walks-from t n (a + 1) (omega arith) (omega arith) (omega arith))
        | inr at ↦
            let here : a ≡ own_core system x = omega arith in
            walks-append x (clocks.turn_of system a t).rows _ (going t (own_core system x)) (going (suc t) (own_core system x)) (going (suc t) (own_core system x))
            (subst (λ (c : ℕ). Walks x (going t c) (clocks.turn_of system a t).rows (going (suc t) c)) here (turn-walks t a (omega arith)))
            (walks-past t n (a + 1) (omega arith) (omega arith) (going (suc t) (own_core system x)))
      ])

  pub walks-clock : own_core system x < system.cores → (t : ℕ) → Walks x false (whats (clocks.clock system t).rows) (going t (own_core system x))
  unfolding going rows_from
  walks-clock known zero =
      rw (get_or-map-range_with_len (opening_core system) 0 system.cores (own_core system x) (own_core system x) (opening_core system (own_core system x)) known (omega arith)) refl
  walks-clock known (suc t) =
      subst (λ (ws : List What). Walks x false ws (going (suc t) (own_core system x))) (sym (ap whats (rows-clock system takes_time t) ∙ map-append (λ (r : Row). r.what) (clocks.clock system t).rows (rows_from t 0 system.cores)))
      (walks-append x (whats (clocks.clock system t).rows) (whats (rows_from t 0 system.cores)) false (going t (own_core system x)) (going (suc t) (own_core system x))
      (walks-clock known t)
      (walks-from t system.cores 0 (omega arith) (omega arith) (omega arith)))

pub apart : SchedulesRunApart
apart system well horizon x =
    (apart-walks x (clocks.schedule system horizon) false _
    (walks-clock system (takes_time system well) x (own_core_known system well x) (suc horizon))).0

pub reported : SchedulesAreReported
reported system well horizon = agree system horizon (clocks.schedule system horizon) (apart system well horizon)
