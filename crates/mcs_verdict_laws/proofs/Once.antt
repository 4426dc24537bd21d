-- A thread that was activated up to a horizon was activated up to each later one.
use Rattle.std.proofs.Common.{◌≡◌, ℕ, zero, suc, ◌+◌, ◌-◌, ◌<◌, ◌≤◌, ◌⊎◌, inl, inr, Bool, true, false, cond, not, ◌&&◌, ◌||◌, ◌==◌, nat_lt, List, [], ◌∷◌, length, get_or, Option, Some, None, refl, sym, ap, subst, ◌∙◌, arith}
use Rattle.std.specs.List.{AllByRecursion}
use Rattle.std.proofs.lemmas.Bool.{cases_lt}
use Rattle.std.proofs.lemmas.Bool.Decides.{nat_tests}
use Rattle.mcs_ticks.specs.declared.row.Row.{Row}
use Rattle.mcs_ticks.specs.declared.row.What.{What}
use Rattle.mcs_ticks.specs.declared.row.What.TheVariants as row
use Rattle.mcs_system.specs.System.{System, thread_part}
use Rattle.mcs_verdict.specs.declared.finding.Finding.TheVariants.{Never}
use Rattle.mcs_verdict.specs.declared.held.Held.{Held}
use Rattle.mcs_verdict.specs.declared.standing.Standing.{Standing}
use Rattle.mcs_verdict.specs.declared.standing.Standing.TheVariants.{Pending, Ready, Running, Throttled, Blocked, AtServer, Done}
use Rattle.mcs_verdict.specs.declared.standing.Stood.{Stood}
use Rattle.mcs_verdict.specs.Activation.{is_active}
use Rattle.mcs_verdict.specs.Calls.{first_wait, is_set, bits_of}
use Rattle.mcs_verdict.specs.Findings.{past_of}
use Rattle.mcs_verdict.specs.Misses.{was_activated, never_at, never}
use Rattle.mcs_verdict.specs.Standing.{telling, standing_at}
use Rattle.mcs_verdict.specs.Stood.{counted, stood_for, stood_in}
use Rattle.mcs_verdict.specs.Words.{no_word, held, held_with, gave, taken, held_after, held_of, word_for, firsts_of}
use Rattle.mcs_verdict_laws.proofs.Due.{first-of, second-of, one-of, set-or}
use Rattle.mcs_verdict_laws.proofs.Overdue.{stamp, standing-before}

-- what a notification gave to threads only grows
given-row : (note m : ℕ) (bits : Option ℕ) (what : What) (before : Held) → is_set bits before.given ≡ true
    → is_set bits (held_after note m what before).given ≡ true
given-row note m bits (row.Hold n word) before e = by (n == note)
  where
    by : (b : Bool) → is_set bits (cond b (held_with m word before) before).given ≡ true
    by true = e
    by false = e
given-row note m bits (row.Got y n word) before e = by (n == note)
  where
    by : (b : Bool) → is_set bits (cond b (taken word before) before).given ≡ true
    by true = set-or bits before.given word e
    by false = e
given-row note m bits (row.Wake y n word until) before e = by (n == note)
  where
    by : (b : Bool) → is_set bits (cond b (gave word before) before).given ≡ true
    by true = set-or bits before.given word e
    by false = e
given-row note m bits (row.Release y) before e = e
given-row note m bits (row.Run y) before e = e
given-row note m bits (row.Stop y cause charged until) before e = e
given-row note m bits (row.Signal y n badge) before e = e
given-row note m bits (row.Arrive n badge maker) before e = e
given-row note m bits (row.Round y number response) before e = e
given-row note m bits (row.Order context) before e = e
given-row note m bits (row.Interrupt source at_note badge) before e = e

given-rows : (firsts : List Held) (note : ℕ) (bits : Option ℕ) (past rows : List Row) → is_set bits (held_of firsts note past).given ≡ true
    → is_set bits (held_of firsts note (past_of past rows)).given ≡ true
given-rows firsts note bits past [] e = e
given-rows firsts note bits past (r ∷ rows) e = given-rows firsts note bits (r ∷ past) rows (by (nat_lt note (length firsts)) e)
  where
    kept : Held
    kept = held (get_or firsts note no_word) note past

    by : (b : Bool) → is_set bits (cond b kept no_word).given ≡ true → is_set bits (cond b (held_after note r.moment r.what kept) no_word).given ≡ true
    by true e = given-row note r.moment bits r.what kept e
    by false e = e

-- the ticks in which a thread was ready or running
abbrev act : List Row → ℕ → ℕ
act rows n = (stood_for rows 0 n).ready + (stood_for rows 0 n).running

counted-more : (s : Standing) (stood : Stood) → stood.ready + stood.running ≤ (counted s 1 stood).ready + (counted s 1 stood).running
counted-more Pending stood = omega arith
counted-more Ready stood = omega arith
counted-more Running stood = omega arith
counted-more Throttled stood = omega arith
counted-more Blocked stood = omega arith
counted-more AtServer stood = omega arith
counted-more Done stood = omega arith

no-yes : false ≡ true → ⊥
no-yes e = cc

counted-active : (s : Standing) (stood : Stood) → is_active s ≡ true → 1 ≤ (counted s 1 stood).ready + (counted s 1 stood).running
counted-active Pending stood e = absurd (no-yes e)
counted-active Ready stood e = omega arith
counted-active Running stood e = omega arith
counted-active Throttled stood e = absurd (no-yes e)
counted-active Blocked stood e = absurd (no-yes e)
counted-active AtServer stood e = absurd (no-yes e)
counted-active Done stood e = absurd (no-yes e)

act-longer : (rows : List Row) (n k : ℕ) → n ≤ k → act rows n ≤ act rows k
act-longer rows n zero l = let same : n ≡ 0 = omega (arith, l) in let f : act rows n ≡ act rows 0 = ap (act rows) same in omega (arith, f)
act-longer rows n (suc k) l = by (cases_lt k n) (λ m. act-longer rows n k m)
  where
    by : (k < n) ⊎ (n ≤ k) → (n ≤ k → act rows n ≤ act rows k) → act rows n ≤ act rows (suc k)
    by (inl m) rest = let same : n ≡ suc k = omega (arith, l, m) in let f : act rows n ≡ act rows (suc k) = ap (act rows) same in omega (arith, f)
    by (inr m) rest =
        let more = rest m in
        let next = counted-more (standing_at (0 + k) rows) (stood_for rows 0 k) in
        omega (arith, more, next)

-- the ticks before a row
stood-before : (x m core n : ℕ) (what : What) (past : List Row) → n ≤ m
    → stood_for (telling x (stamp m core what ∷ past)) 0 n ≡ stood_for (telling x past) 0 n
stood-before x m core zero what past l = refl
stood-before x m core (suc n) what past l =
    ap (counted (standing_at (0 + n) (telling x (stamp m core what ∷ past))) 1) (stood-before x m core n what past (omega (arith, l)))
    ∙ ap (λ s. counted s 1 (stood_for (telling x past) 0 n)) (standing-before x m core (0 + n) what past (omega (arith, l)))

module _ (x h : ℕ) where
  abbrev IsAfter : List Row → Type 0
  IsAfter rows = AllByRecursion (λ (r : Row). suc h ≤ r.moment) rows

  standing-rows : (past rows : List Row) → IsAfter rows → standing_at h (telling x (past_of past rows)) ≡ standing_at h (telling x past)
  standing-rows past [] after = refl
  standing-rows past (r ∷ rows) after =
      standing-rows (r ∷ past) rows after.1
      ∙ standing-before x r.moment r.core h r.what past (let l = after.0 in omega (arith, l))

  stood-rows : (past rows : List Row) → IsAfter rows → stood_for (telling x (past_of past rows)) 0 h ≡ stood_for (telling x past) 0 h
  stood-rows past [] after = refl
  stood-rows past (r ∷ rows) after =
      stood-rows (r ∷ past) rows after.1
      ∙ stood-before x r.moment r.core h r.what past (let l = after.0 in omega (arith, l))

  some-more : (p q : ℕ) → p ≤ q → not (p == 0) ≡ true → not (q == 0) ≡ true
  some-more p q l e = grind (arith, nat_tests)

  one-more : (q : ℕ) → 1 ≤ q → not (q == 0) ≡ true
  one-more q l = grind (arith, nat_tests)

  abbrev WasActive : List Row → ℕ → Type 0
  WasActive past k = (is_active (standing_at k (telling x past)) || not (act (telling x past) k == 0)) ≡ true

  active-rows : (k : ℕ) (past rows : List Row) → h ≤ k → IsAfter rows → WasActive past h → WasActive (past_of past rows) k
  active-rows k past rows l after e = by (cases_lt h k) (one-of (is_active (standing_at h (telling x past))) (not (act (telling x past) h == 0)) e)
    where
      late : List Row
      late = telling x (past_of past rows)

      then-on : act (telling x past) h ≡ act late h
      then-on = ap (λ (stood : Stood). stood.ready + stood.running) (sym (stood-rows past rows after))

      by : (h < k) ⊎ (k ≤ h) → (is_active (standing_at h (telling x past)) ≡ true) ⊎ (not (act (telling x past) h == 0) ≡ true)
          → (is_active (standing_at k late) || not (act late k == 0)) ≡ true
      by o (inr some) =
          let more = act-longer late h k l in
          let same = then-on in
          second-of (is_active (standing_at k late)) (not (act late k == 0))
          (some-more (act (telling x past) h) (act late k) (omega (arith, same, more)) some)
      by (inl m) (inl active) =
          let same : 0 + h ≡ h = omega arith in
          let now : is_active (standing_at (0 + h) late) ≡ true =
          ap (λ n. is_active (standing_at n late)) same ∙ ap is_active (standing-rows past rows after) ∙ active
          in
          let one = counted-active (standing_at (0 + h) late) (stood_for late 0 h) now in
          let more = act-longer late (suc h) k (omega (arith, m)) in
          second-of (is_active (standing_at k late)) (not (act late k == 0)) (one-more (act late k) (omega (arith, one, more)))
      by (inr m) (inl active) =
          let same : k ≡ h = omega (arith, l, m) in
          first-of (is_active (standing_at k late)) (not (act late k == 0))
          (ap (λ n. is_active (standing_at n late)) same ∙ ap is_active (standing-rows past rows after) ∙ active)

-- what was activated is found no more
never-none : (x deadline : ℕ) (once again : Bool) → (once ≡ true → again ≡ true) → never_at x deadline once ≡ None → never_at x deadline again ≡ None
never-none x deadline once again h e = by (deadline == 0) once again h e
  where
    by : (none once again : Bool) → (once ≡ true → again ≡ true) → cond (not none && not once) (Some (Never x deadline)) None ≡ None
        → cond (not none && not again) (Some (Never x deadline)) None ≡ None
    by true once again h e = refl
    by false true again h e = ap (λ b. cond (not b) (Some (Never x deadline)) None) (h refl)
    by false false again h e = cc

-- after further rows, at a later horizon
pub never-later : (system : System) (x h k : ℕ) (past rows : List Row) → h ≤ k → AllByRecursion (λ (r : Row). suc h ≤ r.moment) rows
    → never system past h x ≡ None → never system (past_of past rows) k x ≡ None
never-later system x h k past rows l after e =
    never-none x (thread_part system x).deadline (once (first_wait (thread_part system x)) past h)
    (once (first_wait (thread_part system x)) (past_of past rows) k) (by (first_wait (thread_part system x))) e
  where
    bits : Option ℕ
    bits = bits_of (thread_part system x)

    once : Option ℕ → List Row → ℕ → Bool
    once waits past n = was_activated waits bits (word_for (firsts_of system) waits past) (standing_at n (telling x past)) (stood_in x past 0 n)

    by : (waits : Option ℕ) → once waits past h ≡ true → once waits (past_of past rows) k ≡ true
    by (Some note) was = given-rows (firsts_of system) note bits past rows was
    by None was =
        let P : List Row → ℕ → ℕ → Type 0 =
        λ rows n m. (is_active (standing_at n (telling x rows)) || not ((stood_for (telling x rows) 0 m).ready + (stood_for (telling x rows) 0 m).running == 0)) ≡ true
        in
        let from : h - 0 ≡ h = omega arith in
        let to : k ≡ k - 0 = omega arith in
        subst (P (past_of past rows) k) to (active-rows x h k past rows l after (subst (P past h) from was))
