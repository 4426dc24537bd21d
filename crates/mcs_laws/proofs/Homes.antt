-- A thread has a place on its own core alone.
use Rattle.std.proofs.Common.{◌≡◌, ◌≢◌, ℕ, zero, suc, ◌+◌, ◌<◌, ◌≤◌, Bool, true, false, cond, ◌==◌, ◌⊎◌, inl, inr, List, [], ◌∷◌, length, get_or, sym, ap, ◌∙◌, refl, arith}
use Rattle.std.proofs.lemmas.Bool.{cases_lt}
use Rattle.std.proofs.lemmas.Bool.Decides.{nat_tests}
use Rattle.std.proofs.lemmas.List.{get_or_past}
use Rattle.std.specs.Prelude.{filter}
use Rattle.mcs_release.specs.declared.dated.Dated.{Dated}
use Rattle.mcs_system.specs.declared.part.ThreadPart.{ThreadPart}
use Rattle.mcs_system.specs.System.{System, TakesTime, no_thread, no_context, thread_part, context_part, core_of}
use Rattle.mcs_system.specs.WellFormed.{IsWellFormed}
use Rattle.mcs_core.specs.Core.{opening_core, opening_releases}
use Rattle.mcs_core.specs.Clock as clocks
use Rattle.mcs_core.specs.Places.{times_dated}
use Rattle.mcs_core.proofs.Clock.{core_shown-first, core_shown-kept}
use Rattle.mcs_laws.specs.Places.{places}
use Rattle.mcs_laws.proofs.Places.{turn-held, quiet-waiting}

abbrev pub one_if : Bool → ℕ
one_if b = cond b 1 0

-- at first a thread has no place on a core that is not its own
pub no_date : (system : System) (c x n : ℕ) (threads : List ThreadPart)
    → ((i : ℕ) → i < length threads → core_of system (get_or threads i no_thread) ≡ c → n + i ≢ x) → times_dated x (opening_releases system c n threads) ≡ 0
no_date system c x n [] h = refl
no_date system c x n (part ∷ parts) h = by (core_of system part == c) refl (no_date system c x (n + 1) parts (λ i l e q. h (suc i) (omega arith) e (omega arith)))
  where
    others : List Dated
    others = opening_releases system c (n + 1) parts

    equal : (a b : ℕ) → (a == b) ≡ true → a ≡ b
    equal a b e = grind (arith, nat_tests)

    another : (a b : ℕ) → a ≢ b → one_if (a == b) ≡ 0
    another a b h = grind (arith, nat_tests)

    by : (b : Bool) → (core_of system part == c) ≡ b → times_dated x others ≡ 0 →
        times_dated x (cond b (record { thread = n; date = part.start } ∷ others) others) ≡ 0
    by true e none =
        omega (
          arith,
          none,
          another n x (λ q. h 0 (omega arith) (equal (core_of system part) c e) (omega arith)),
        )
    by false e none = none

unfoldable pub own_core : System → ℕ → ℕ
own_core system x = core_of system (thread_part system x)

pub no_place : (system : System) (c x : ℕ) → c ≢ own_core system x → places x (opening_core system c) ≡ 0
unfolding own_core
no_place system c x away =
    omega (arith, no_date system c x 0 system.threads (λ i l e q. away (elsewhere i (omega arith) e)), quiet-waiting x system.notes)
  where
    elsewhere : (i : ℕ) → i ≡ x → core_of system (get_or system.threads i no_thread) ≡ c → c ≡ core_of system (thread_part system x)
    elsewhere i q e = sym e ∙ ap (λ k. core_of system (get_or system.threads k no_thread)) q

-- and so at each moment
module _ (system : System) (takes_time : TakesTime system) (x : ℕ) where
  pub away : (t c : ℕ) → c < system.cores → c ≢ own_core system x → places x (clocks.core_shown system (clocks.world system t) c) ≡ 0
  away zero c known other = ap (places x) (core_shown-first system c known) ∙ no_place system c x other
  away (suc t) c known other =
      ap (places x) (core_shown-kept system takes_time t c known)
      ∙ still_none _ _ (turn-held system c t x (filter (clocks.arrives_at system t c) (clocks.world system t).mails) (clocks.core_shown system (clocks.world system t) c)) (away t c known other)
    where
      still_none : (a b : ℕ) → a ≤ b → b ≡ 0 → a ≡ 0
      still_none a b p q = omega arith

-- each thread has a core that there is
pub core_of_context : (system : System) → IsWellFormed system → (context : ℕ) → (context_part system context).core < system.cores
core_of_context system well context = by (cases_lt context (length system.contexts))
  where
    by : (context < length system.contexts) ⊎ (length system.contexts ≤ context) → (context_part system context).core < system.cores
    by (inl within) = (well.contexts context no_context within).core
    by (inr past) = rw (get_or_past system.contexts context no_context past) (omega (arith, well.limits.cores.0))

pub own_core_known : (system : System) → IsWellFormed system → (x : ℕ) → own_core system x < system.cores
unfolding own_core
own_core_known system well x = core_of_context system well (thread_part system x).context
