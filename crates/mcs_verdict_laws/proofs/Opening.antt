-- The place of a thread on its core at first.
use Rattle.std.proofs.Common.{◌≡◌, ℕ, zero, suc, ◌+◌, ◌<◌, ◌≤◌, Bool, true, false, cond, ◌==◌, List, [], ◌∷◌, length, get_or, Option, Some, None, refl, sym, ap, ◌∙◌, arith}
use Rattle.std.specs.Prelude.{nat_lt}
use Rattle.std.proofs.lemmas.Bool.Decides.{nat_tests}
use Rattle.std.proofs.lemmas.List.{get_or-map, length-map}
use Rattle.mcs_release.specs.declared.dated.Dated.{Dated}
use Rattle.mcs_system.specs.declared.part.ThreadPart.{ThreadPart}
use Rattle.mcs_system.specs.System.{System, no_thread, thread_part, core_of}
use Rattle.mcs_core.specs.declared.standing.Thread.{Thread}
use Rattle.mcs_core.specs.Core.{opening_note, no_state, thread_of, opening_thread, opening_releases, opening_core}
use Rattle.mcs_core.specs.Places.{times_dated}
use Rattle.mcs_laws.proofs.Places.{quiet-waiting}
use Rattle.mcs_laws.proofs.Homes.{no_date}
use Rattle.mcs_verdict.specs.declared.standing.Standing.{Standing}
use Rattle.mcs_verdict.specs.declared.standing.Standing.TheVariants.{Pending, Done}
use Rattle.mcs_verdict.specs.Rounds.{begun_at}
use Rattle.mcs_verdict_laws.proofs.Steps.{Told, told_of}
use Rattle.mcs_verdict_laws.proofs.Holds.{beginning_of, first, start_at, AreDated, Holds}

-- a thread of the core is once in the release queue
one_date : (system : System) (c x n i : ℕ) (threads : List ThreadPart) → i < length threads → x ≡ n + i
    → core_of system (get_or threads i no_thread) ≡ c
    → times_dated x (opening_releases system c n threads) ≡ 1
one_date system c x n i [] l e own = absurd (omega (arith, l))
one_date system c x n zero (part ∷ parts) l e own = by (core_of system part == c) (same (core_of system part) c own)
  where
    others : List Dated
    others = opening_releases system c (n + 1) parts

    same : (a b : ℕ) → a ≡ b → (a == b) ≡ true
    same a b e = grind (arith, nat_tests)

    self : (a b : ℕ) → b ≡ a + 0 → (a == b) ≡ true
    self a b e = grind (arith, nat_tests)

    none : times_dated x (opening_releases system c (n + 1) parts) ≡ 0
    none = no_date system c x (n + 1) parts (λ i l f q. omega (arith, e, q))

    by : (b : Bool) → b ≡ true → times_dated x
        (cond b (record { thread = n; date = part.start } ∷ opening_releases system c (n + 1) parts) (opening_releases system c (n + 1) parts)) ≡ 1
    by true f =
        let one : ◌≡◌ {A = ℕ} (cond (n == x) 1 0) 1 = ap (λ b. cond b 1 0) (self n x e) in
        omega (arith, one, none)
    by false f = absurd (let g : false ≡ true = f in cc)
one_date system c x n (suc i) (part ∷ parts) l e own =
    by (core_of system part == c) (one_date system c x (n + 1) i parts (omega (arith, l)) (omega (arith, e)) own)
  where
    another : (a b i : ℕ) → b ≡ a + suc i → (a == b) ≡ false
    another a b i e = grind (arith, nat_tests)

    by : (b : Bool) → times_dated x (opening_releases system c (n + 1) parts) ≡ 1
        → times_dated x (cond b (record { thread = n; date = part.start } ∷ opening_releases system c (n + 1) parts)
        (opening_releases system c (n + 1) parts)) ≡ 1
    by true one =
        let none : ◌≡◌ {A = ℕ} (cond (n == x) 1 0) 0 = ap (λ b. cond b 1 0) (another n x i e) in
        omega (arith, one, none)
    by false one = one

-- and its date is its start
all-dated : (system : System) (c x n date : ℕ) (threads : List ThreadPart)
    → ((i : ℕ) → i < length threads → x ≡ n + i → (get_or threads i no_thread).start ≡ date)
    → AreDated system x date (opening_releases system c n threads)
all-dated system c x n date [] h = tt
all-dated system c x n date (part ∷ parts) h =
    by (core_of system part == c) (all-dated system c x (n + 1) date parts (λ i l e. h (suc i) (omega (arith, l)) (omega (arith, e))))
  where
    by : (b : Bool) → AreDated system x date (opening_releases system c (n + 1) parts)
        → AreDated system x date
        (cond b (record { thread = n; date = part.start } ∷ opening_releases system c (n + 1) parts) (opening_releases system c (n + 1) parts))
    by true rest = ((λ e. h 0 (omega arith) (omega (arith, e))), rest)
    by false rest = rest

module _ (system : System) (x : ℕ) where
  -- a thread that the system has not has no row
  abbrev pub opening_as : Bool → Standing
  opening_as true = Pending
  opening_as false = Done

  abbrev pub opening_standing : Standing
  opening_standing = opening_as (nat_lt x (length system.threads))

  abbrev pub opening_told : Told
  opening_told = told_of opening_standing (begun_at (first system x).waits (start_at system x))

  known-holds : x < length system.threads
      → Holds system x 0 0 (told_of Pending (begun_at (first system x).waits (start_at system x)))
      (opening_core system (core_of system (thread_part system x)))
  known-holds known =
      let c = core_of system (thread_part system x) in
      let state : thread_of (opening_core system c) x ≡ opening_thread system c (thread_part system x) = get_or-map
      (opening_thread system c) system.threads x no_thread no_state known in
      record {
        runs = refl;
        ready = refl;
        dated = one_date system c x 0 x system.threads known (omega arith) refl;
        waits = quiet-waiting x system.notes;
        own = (
          record {
            known = known;
            has = let l = length-map system.threads (opening_thread system c) in omega (arith, l, known);
            notes = length-map system.notes opening_note;
            begins = begins (first system x).waits (start_at system x) ∙ ap (λ (s : Thread). beginning_of (first system x).waits s.place.item s.since)
                (sym state);
          },
          record {
            later = omega arith;
            since = ap (λ (s : Thread). s.since) state;
            dates = all-dated system c x 0 (start_at system x) system.threads
                (λ i l e. ap (λ n. (get_or system.threads n no_thread).start) (omega (arith, e)));
          },
        );
      }
    where
      begins : (waits : Option ℕ) (start : ℕ) → begun_at waits start ≡ beginning_of waits 0 start
      begins None start = refl
      begins (Some note) start = refl

  unknown-holds : (begun : Option ℕ) → length system.threads ≤ x
      → Holds system x 0 0 (told_of Done begun) (opening_core system (core_of system (thread_part system x)))
  unknown-holds begun past =
      let c = core_of system (thread_part system x) in
      record {
        runs = refl;
        ready = refl;
        dated = no_date system c x 0 system.threads (λ i l f q. omega (arith, past, l, q));
        waits = quiet-waiting x system.notes;
        own = tt;
      }

  pub opening-holds : Holds system x 0 0 opening_told (opening_core system (core_of system (thread_part system x)))
  opening-holds = by (nat_lt x (length system.threads)) refl
    where
      inside : (a b : ℕ) → nat_lt a b ≡ true → a < b
      inside a b e = grind (arith, nat_tests)

      outside : (a b : ℕ) → nat_lt a b ≡ false → b ≤ a
      outside a b e = grind (arith, nat_tests)

      by : (b : Bool) → nat_lt x (length system.threads) ≡ b
          → Holds system x 0 0 (told_of (opening_as b) (begun_at (first system x).waits (start_at system x)))
          (opening_core system (core_of system (thread_part system x)))
      by true e = known-holds (inside x (length system.threads) e)
      by false e = unknown-holds (begun_at (first system x).waits (start_at system x)) (outside x (length system.threads) e)
