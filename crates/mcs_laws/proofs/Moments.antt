-- At each moment threads are on time.
use Rattle.std.proofs.Common.{◌≡◌, ◌≢◌, ℕ, zero, suc, ◌+◌, ◌<◌, ◌≤◌, ◌⊎◌, inl, inr, Bool, true, false, cond, List, [], ◌∷◌, length, get_or, refl, sym, ap, subst, ◌∙◌, arith}
use Rattle.std.specs.Prelude.{filter, ◌==◌}
use Rattle.std.specs.List.{AllByRecursion}
use Rattle.std.proofs.lemmas.Bool.{cases_lt}
use Rattle.std.proofs.lemmas.Bool.Decides.{nat_tests}
use Rattle.mcs_refills.specs.Server as server
use Rattle.mcs_control.specs.declared.config.Config.{Config}
use Rattle.mcs_control.specs.declared.config.Kind.{Kind}
use Rattle.mcs_control.specs.declared.config.Kind.TheVariants.{Sporadic, RoundRobin}
use Rattle.mcs_control.specs.declared.config.Mode.{Mode}
use Rattle.mcs_control.specs.declared.config.Order.{Order}
use Rattle.mcs_control.specs.Control.{kind_of}
use Rattle.mcs_control.specs.Context.{head_moment, new_context, first_budget, moment_of}
use Rattle.mcs_release.specs.declared.dated.Dated.{Dated}
use Rattle.mcs_system.specs.declared.part.ThreadPart.{ThreadPart}
use Rattle.mcs_system.specs.System.{System, thread_part, context_part, no_thread, no_context, core_of, start_of}
use Rattle.mcs_core.specs.Core.{Core, context_of, opening_core, opening_releases}
use Rattle.mcs_core.specs.Clock as clocks
use Rattle.mcs_system.specs.WellFormed.{IsWellFormed}
use Rattle.mcs_core.proofs.Clock.{turn_kept, core_shown-first, core_shown-kept}
use Rattle.mcs_laws.specs.Changes.{GivesBudget}
use Rattle.mcs_laws.specs.Histories as told
use Rattle.mcs_laws.specs.Places.{places}
use Rattle.mcs_core.specs.Places.{times_dated}
use Rattle.mcs_laws.specs.OnTime.{IsOnTime, ThreadsAreOnTime}
use Rattle.mcs_laws.proofs.Ranges.{by_recursion}
use Rattle.mcs_laws.proofs.Places as held
use Rattle.mcs_laws.proofs.Histories.{takes-time, gives-budgets, before-opening, life, inside}
use Rattle.mcs_laws.proofs.Releases.{AreFrom, all-from-zero, turn-later}
use Rattle.mcs_laws.proofs.OnTime.{IsAlone, WasOnTime, OnTime, one-same, turn-on_time}

-- the start of the only thread that has a context
start-is : (threads : List ThreadPart) (x : ℕ) → x < length threads →
    ((i : ℕ) → i < length threads → (get_or threads i no_thread).context ≡ (get_or threads x no_thread).context → i ≡ x) →
    start_of threads (get_or threads x no_thread).context ≡ (get_or threads x no_thread).start
start-is [] x known sole = absurd (omega (arith, known))
start-is (part ∷ parts) zero known sole = itself part.context part.start (start_of parts part.context)
  where
    itself : (a s u : ℕ) → cond (a == a) s u ≡ s
    itself a s u = grind (arith, nat_tests)
start-is (part ∷ parts) (suc x) known sole =
    another part.context (get_or parts x no_thread).context part.start (start_of parts (get_or parts x no_thread).context) (λ e. absurd (omega (arith, sole 0 (omega arith) e)))
    ∙ start-is parts x (omega (arith, known)) (λ i l e. omega (arith, sole (suc i) (omega (arith, l)) e))
  where
    another : (a b s u : ℕ) → a ≢ b → cond (a == b) s u ≡ u
    another a b s u e = grind (arith, nat_tests)

-- a new context's head comes when it may first be used
first-head : (config : Config) (mode : Mode) (at : ℕ) → head_moment (new_context config mode at) ≤ at
first-head config mode at = by (kind_of config)
  where
    first : (budget : ℕ) → server.first_date (server.dates_from at budget) ≤ at
    first zero = omega arith
    first (suc budget) = omega arith

    by : (kind : Kind) → moment_of (first_budget kind at config.budget) ≤ at
    by Sporadic = first config.budget
    by RoundRobin = omega arith

module _ (system : System) where
  -- the first release queue
  opening-not_before : (c x m number : ℕ) (threads : List ThreadPart) → ((i : ℕ) → i < length threads → number + i ≡ x → m ≤ (get_or threads i no_thread).start) →
      AllByRecursion (λ (dated : Dated). dated.thread ≡ x → m ≤ dated.date) (opening_releases system c number threads)
  opening-not_before c x m number [] h = tt
  opening-not_before c x m number (part ∷ parts) h =
      by (core_of system part == c) (opening-not_before c x m (number + 1) parts (λ i l e. h (suc i) (omega (arith, l)) (omega (arith, e))))
    where
      others : List Dated
      others = opening_releases system c (number + 1) parts

      by : (b : Bool) → AllByRecursion (λ (dated : Dated). dated.thread ≡ x → m ≤ dated.date) others →
          AllByRecursion (λ (dated : Dated). dated.thread ≡ x → m ≤ dated.date) (cond b (record { thread = number; date = part.start } ∷ others) others)
      by true i = (λ e. h 0 (omega arith) (omega (arith, e)), i)
      by false i = i

  past-dated : (c y number : ℕ) (threads : List ThreadPart) → number + length threads ≤ y → times_dated y (opening_releases system c number threads) ≡ 0
  past-dated c y number [] l = refl
  past-dated c y number (part ∷ parts) l = by (core_of system part == c) (past-dated c y (number + 1) parts (omega (arith, l)))
    where
      others : List Dated
      others = opening_releases system c (number + 1) parts

      less : (a b : ℕ) → a < b → held.one b a ≡ 0
      less a b l = grind (arith, nat_tests)

      by : (b : Bool) → times_dated y others ≡ 0 → times_dated y (cond b (record { thread = number; date = part.start } ∷ others) others) ≡ 0
      by true i = omega (arith, i, held.dated-cons y (record { thread = number; date = part.start }) others, less number y (omega (arith, l)))
      by false i = i

module _ (system : System) (well : IsWellFormed system) (x : ℕ) (known : x < length system.threads) where
  abbrev context : ℕ
  context = (thread_part system x).context

  abbrev home : ℕ
  home = told.home_of system context

  abbrev before : ℕ → Core
  before t = clocks.core_shown system (clocks.world system t) home

  pub bound : context < length system.contexts
  bound = (well.threads x no_thread known).bound

  home-known : home < system.cores
  home-known = (well.contexts context no_context bound).core

  before-first : before 0 ≡ opening_core system home
  before-first = core_shown-first system home home-known

  pub before-next : (t : ℕ) → before (suc t) ≡ (turn_kept system home t).core
  before-next t = core_shown-kept system (takes-time system well) t home home-known

  -- no other thread has its context
  sole : (y : ℕ) → y < length system.threads → (thread_part system y).context ≡ context → y ≡ x
  sole y l e = by (cases_lt y x) (cases_lt x y)
    where
      by : (y < x) ⊎ (x ≤ y) → (x < y) ⊎ (y ≤ x) → y ≡ x
      by (inl less) b = absurd (well.one_each y x no_thread less known e)
      by (inr a) (inl less) = absurd (well.one_each x y no_thread less l (sym e))
      by (inr a) (inr b) = omega (arith, a, b)

  -- numbers past the threads have no place
  past-none : (y t : ℕ) → length system.threads ≤ y → places y (before t) ≡ 0
  past-none y zero l =
      ap (places y) before-first ∙ omega (arith, past-dated system home y 0 system.threads (omega (arith, l)), held.quiet-waiting y system.notes)
  past-none y (suc t) l =
      none _ _ (ap (places y) (before-next t))
      (held.turn-held system home t y (filter (clocks.arrives_at system t home) (clocks.world system t).mails) (before t)) (past-none y t l)
    where
      none : (a b : ℕ) → a ≡ b → b ≤ places y (before t) → places y (before t) ≡ 0 → a ≡ 0
      none a b e p q = omega (arith, e, p, q)

  pub alone : (t : ℕ) → IsAlone system t x (before t)
  alone t y own = by (cases_lt y (length system.threads))
    where
      by : (y < length system.threads) ⊎ (length system.threads ≤ y) → places y (before t) ≤ held.one x y
      by (inl l) = omega (arith, held.one-shown system (takes-time system well) home t y home-known, one-same y x (sole y l own))
      by (inr l) = omega (arith, past-none y t l)

  start : start_of system.threads context ≡ (thread_part system x).start
  start = start-is system.threads x known sole

  opening-head : head_moment (context_of (before 0) context) ≤ (thread_part system x).start
  opening-head =
      omega (
        arith,
        ap head_moment (before-opening system well context bound),
        first-head (context_part system context).config (context_part system context).mode (start_of system.threads context),
        start,
      )

  -- no date in the release queue has passed
  dates-to-come : (t : ℕ) → AreFrom t (before t).releases
  dates-to-come zero = all-from-zero (before 0).releases
  dates-to-come (suc t) =
      let P : Core → Type 0 = λ k. AreFrom (suc t) k.releases in
      subst P (sym (before-next t)) (turn-later system home t (filter (clocks.arrives_at system t home) (clocks.world system t).mails) (before t))

  pub on-time : (t : ℕ) → WasOnTime system home t x (before t)
  on-time zero =
      let P : Core → Type 0 = λ k. IsOnTime x (head_moment (context_of (before 0) context)) 0 k.running k.ready k.releases in
      subst P (sym before-first)
      (record {
        runs = tt;
        ready = λ l. absurd (omega (arith, l));
        pends = opening-not_before system home x (head_moment (context_of (before 0) context)) 0 system.threads (λ i l e. started i (omega (arith, e)));
      })
    where
      started : (i : ℕ) → i ≡ x → head_moment (context_of (before 0) context) ≤ (get_or system.threads i no_thread).start
      started i e = let P : ℕ → Type 0 = λ j. head_moment (context_of (before 0) context) ≤ (get_or system.threads j no_thread).start in subst P (sym e) opening-head
  on-time (suc t) =
      let P : Core → Type 0 = OnTime system t x in
      let l = life system well context bound t in
      subst P (sym (before-next t))
      (turn-on_time system home t x (by_recursion (λ (order : Order). GivesBudget order.config) system.orders (gives-budgets system well).orders)
      (filter (clocks.arrives_at system t home) (clocks.world system t).mails) (before t) (inside system well context bound t l) l.keeps l.uses (dates-to-come t) (alone t) (on-time t))

pub threads-on-time : (system : System) → IsWellFormed system → ThreadsAreOnTime system
threads-on-time system well x t known =
    let h = on-time system well x known t in
    record {
      runs = h.runs;
      ready = λ l. h.ready (omega (arith, l, held.sorted-queued x (told.home_before system (context system well x known) t).ready));
      pends = h.pends;
    }
