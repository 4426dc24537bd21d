-- The things of a core: the signals that arrive there, who runs there, and the rounds that end
-- there.
use Rattle.std.proofs.Common.{◌≡◌, ◌≢◌, ℕ, zero, suc, ◌+◌, ◌<◌, ◌≤◌, ◌⊎◌, inl, inr, Bool, true, false, cond, ◌==◌, ◌&&◌, List, [], ◌∷◌, ◌++◌, Some, refl, sym, ap, subst, ◌∙◌, arith}
use Rattle.std.specs.Prelude.{filter, flat_map}
use Rattle.std.specs.List.{AllByRecursion, range_with_len}
use Rattle.std.proofs.lemmas.Bool.{cases_lt}
use Rattle.mcs_ticks.specs.declared.row.Row.{Row}
use Rattle.mcs_ticks.specs.declared.row.What.{What}
use Rattle.mcs_ticks.specs.declared.row.What.TheVariants as row
use Rattle.mcs_mail.specs.declared.mail.Mail.{Mail}
use Rattle.mcs_system.specs.System.{System, TakesTime, thread_part, note_part, core_of}
use Rattle.mcs_system.specs.WellFormed.{IsWellFormed}
use Rattle.mcs_system.proofs.Linked.{takes_time}
use Rattle.mcs_core.specs.declared.standing.Chosen.{Chosen}
use Rattle.mcs_core.specs.Turn.{stamped}
use Rattle.mcs_core.specs.Clock as clocks
use Rattle.mcs_core.proofs.Clock.{rows-clock}
use Rattle.mcs_laws.specs.Places.{times_running}
use Rattle.mcs_laws.proofs.Homes.{own_core, own_core_known, away}
use Rattle.mcs_verdict_laws.proofs.Steps.{contrary, IsOther, AreOther, ends_round}
use Rattle.mcs_verdict_laws.proofs.Entering.{self, equal}
use Rattle.mcs_verdict_laws.proofs.Reached.{other-turn as not-home}

-- the signals that arrive on a core are for its notifications
pub mails-home : (system : System) (t c : ℕ) (mails : List Mail)
    → AllByRecursion (λ (mail : Mail). (note_part system mail.note).core ≡ c) (filter (clocks.arrives_at system t c) mails)
mails-home system t c [] = tt
mails-home system t c (mail ∷ mails) = by (mail.arrives == t) ((note_part system mail.note).core == c) refl (mails-home system t c mails)
  where
    by : (a b : Bool) → ((note_part system mail.note).core == c) ≡ b
        → AllByRecursion (λ (mail : Mail). (note_part system mail.note).core ≡ c) (filter (clocks.arrives_at system t c) mails)
        → AllByRecursion (λ (mail : Mail). (note_part system mail.note).core ≡ c)
        (cond (a && b) (mail ∷ filter (clocks.arrives_at system t c) mails) (filter (clocks.arrives_at system t c) mails))
    by true true e rest = (equal (note_part system mail.note).core c e, rest)
    by true false e rest = rest
    by false b e rest = rest

module _ (system : System) (well : IsWellFormed system) (x : ℕ) where
  takes : TakesTime system
  takes = takes_time system well

  abbrev home : ℕ
  home = core_of system (thread_part system x)

  pub home_known : core_of system (thread_part system x) < system.cores
  unfolding own_core
  home_known = own_core_known system well x

  abbrev rows_from : ℕ → ℕ → ℕ → List Row
  rows_from t a n = flat_map (λ c. clocks.rows_of system c t) (range_with_len a n)

  -- its rounds end on its core
  abbrev IsHome : Row → Type 0
  IsHome r = ends_round x r.what ≡ true → r.core ≡ core_of system (thread_part system x)

  no-round : (what : What) → IsOther x what → ends_round x what ≡ true → ⊥
  no-round (row.Round y number response) other e = contrary (y == x) other e
  no-round (row.Release y) other e = absurd (contrary false refl e)
  no-round (row.Run y) other e = absurd (contrary false refl e)
  no-round (row.Stop y cause charged until) other e = absurd (contrary false refl e)
  no-round (row.Signal y note badge) other e = absurd (contrary false refl e)
  no-round (row.Arrive note badge maker) other e = absurd (contrary false refl e)
  no-round (row.Wake y note word until) other e = absurd (contrary false refl e)
  no-round (row.Hold note word) other e = absurd (contrary false refl e)
  no-round (row.Got y note word) other e = absurd (contrary false refl e)
  no-round (row.Order context) other e = absurd (contrary false refl e)
  no-round (row.Interrupt source at_note badge) other e = absurd (contrary false refl e)

  home-there : (c t : ℕ) (rows : List What) → c ≡ core_of system (thread_part system x) → AllByRecursion IsHome (stamped c t rows)
  home-there c t [] e = tt
  home-there c t (what ∷ rows) e = ((λ own. e), home-there c t rows e)

  home-other : (c t : ℕ) (rows : List What) → AreOther x rows → AllByRecursion IsHome (stamped c t rows)
  home-other c t [] other = tt
  home-other c t (what ∷ rows) other = ((λ own. absurd (no-round what other.0 own)), home-other c t rows other.1)

  home-append : (rows more : List Row) → AllByRecursion IsHome rows → AllByRecursion IsHome more → AllByRecursion IsHome (rows ++ more)
  home-append [] more first second = second
  home-append (r ∷ rows) more first second = (first.0, home-append rows more first.1 second)

  home-turn-rows : (t c : ℕ) → c < system.cores → AllByRecursion IsHome (clocks.rows_of system c t)
  home-turn-rows t c known = by (cases_lt c home) (cases_lt home c)
    where
      by : (c < home) ⊎ (home ≤ c) → (home < c) ⊎ (c ≤ home) → AllByRecursion IsHome (clocks.rows_of system c t)
      by (inl l) other =
          home-other c t (clocks.turn_of system c t).rows (not-home system well x t c known (λ e. omega (arith, l, e)))
      by (inr l) (inl m) =
          home-other c t (clocks.turn_of system c t).rows (not-home system well x t c known (λ e. omega (arith, m, e)))
      by (inr l) (inr m) = home-there c t (clocks.turn_of system c t).rows (omega (arith, l, m))

  home-moment : (t n a : ℕ) → a + n ≤ system.cores → AllByRecursion IsHome (rows_from t a n)
  home-moment t zero a l = tt
  home-moment t (suc n) a l =
      home-append (clocks.rows_of system a t) (rows_from t (a + 1) n) (home-turn-rows t a (omega (arith, l))) (home-moment t n (a + 1) (omega (arith, l)))

  pub rounds-home : (t : ℕ) → AllByRecursion (λ (r : Row). ends_round x r.what ≡ true → r.core ≡ core_of system (thread_part system x)) (clocks.clock system t).rows
  rounds-home zero = tt
  rounds-home (suc t) =
      let P : List Row → Type 0 = λ rows. AllByRecursion IsHome rows in
      subst P (sym (rows-clock system takes t))
      (home-append (clocks.clock system t).rows (rows_from t 0 system.cores) (rounds-home t) (home-moment t system.cores 0 (omega arith)))

  -- who runs on a core is of it
  pub runs-home : (t c : ℕ) → c < system.cores → (chosen : Chosen)
      → (clocks.core_shown system (clocks.world system t) c).running ≡ Some chosen → core_of system (thread_part system chosen.thread) ≡ c
  unfolding own_core
  runs-home t c known chosen e = by (cases_lt c (core_of system (thread_part system chosen.thread))) (cases_lt (core_of system (thread_part system chosen.thread)) c)
    where
      elsewhere : c ≢ core_of system (thread_part system chosen.thread) → ⊥
      elsewhere other =
          let none = away system takes chosen.thread t c known other in
          let one : times_running chosen.thread (clocks.core_shown system (clocks.world system t) c).running ≡ 1 =
          ap (times_running chosen.thread) e ∙ ap (λ b. cond b 1 0) (self chosen.thread)
          in
          omega (arith, none, one)

      by : (c < core_of system (thread_part system chosen.thread)) ⊎ (core_of system (thread_part system chosen.thread) ≤ c)
          → (core_of system (thread_part system chosen.thread) < c) ⊎ (c ≤ core_of system (thread_part system chosen.thread))
          → core_of system (thread_part system chosen.thread) ≡ c
      by (inl l) other = absurd (elsewhere (λ e. omega (arith, l, e)))
      by (inr l) (inl m) = absurd (elsewhere (λ e. omega (arith, m, e)))
      by (inr l) (inr m) = omega (arith, l, m)
