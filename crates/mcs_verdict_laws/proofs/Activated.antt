-- A round was activated no later than any moment up to which its rows come.
use Rattle.std.proofs.Common.{◌≡◌, ℕ, zero, suc, ◌+◌, ◌-◌, ◌≤◌, Bool, true, false, cond, ◌==◌, List, [], ◌∷◌, length, get_or, Option, Some, None, refl, subst, arith}
use Rattle.std.specs.Prelude.{nat_lt}
use Rattle.mcs_ticks.specs.declared.row.Row.{Row}
use Rattle.mcs_ticks.specs.declared.row.What.{What}
use Rattle.mcs_ticks.specs.declared.row.What.TheVariants as row
use Rattle.mcs_system.specs.declared.part.NotePart.{NotePart}
use Rattle.mcs_system.specs.declared.part.ThreadPart.{ThreadPart}
use Rattle.mcs_system.specs.System.{System, thread_part}
use Rattle.mcs_verdict.specs.declared.held.Held.{Held}
use Rattle.mcs_verdict.specs.Activation.{is_active, or_tick, first_for, first_active}
use Rattle.mcs_verdict.specs.Calls.{first_wait, bits_of, is_set}
use Rattle.mcs_verdict.specs.Findings.{UpTo}
use Rattle.mcs_verdict.specs.Jobs.{or_now}
use Rattle.mcs_verdict.specs.Rounds.{begins_round, begun, begun_of, called_by, called_after, called, called_of, activated_by, activated_in, activated_of}
use Rattle.mcs_verdict.specs.Standing.{telling, standing_at}
use Rattle.mcs_verdict.specs.Words.{no_word, gave, taken, held_after, held, held_of, firsts_from, firsts_of}

-- a moment, if there is one, is not later than another
abbrev IsWithin : ℕ → Option ℕ → Type 0
IsWithin m None = Unit {0}
IsWithin m (Some a) = a ≤ m

within-later : (m n : ℕ) (o : Option ℕ) → m ≤ n → IsWithin m o → IsWithin n o
within-later m n None l h = tt
within-later m n (Some a) l h = omega (arith, l, h)

-- a word was set so
held-within : (first : Held) (note : ℕ) (past : List Row) (m : ℕ) → first.since ≡ 0 → UpTo m past → (held first note past).since ≤ m
held-within first note [] m e up = omega (arith, e)
held-within first note (r ∷ past) m e up = by r.what (held first note past) (held-within first note past r.moment e up.1)
  where
    by : (what : What) (before : Held) → before.since ≤ r.moment → (held_after note r.moment what before).since ≤ m
    by (row.Hold x word) before l = at_note (x == note) (is_set before.bits before.word)
      where
        at_note : (b c : Bool) → (cond b (record before { word = word; since = cond c before.since r.moment }) before).since ≤ m
        at_note true true = let h = up.0 in omega (arith, l, h)
        at_note true false = up.0
        at_note false c = let h = up.0 in omega (arith, l, h)
    by (row.Got y x word) before l = at_note (x == note)
      where
        at_note : (b : Bool) → (cond b (taken word before) before).since ≤ m
        at_note true = let h = up.0 in omega (arith, l, h)
        at_note false = let h = up.0 in omega (arith, l, h)
    by (row.Wake y x word until) before l = at_note (x == note)
      where
        at_note : (b : Bool) → (cond b (gave word before) before).since ≤ m
        at_note true = let h = up.0 in omega (arith, l, h)
        at_note false = let h = up.0 in omega (arith, l, h)
    by (row.Release y) before l = let h = up.0 in omega (arith, l, h)
    by (row.Run y) before l = let h = up.0 in omega (arith, l, h)
    by (row.Stop y cause charged until) before l = let h = up.0 in omega (arith, l, h)
    by (row.Signal y x badge) before l = let h = up.0 in omega (arith, l, h)
    by (row.Arrive x badge maker) before l = let h = up.0 in omega (arith, l, h)
    by (row.Round y number response) before l = let h = up.0 in omega (arith, l, h)
    by (row.Order context) before l = let h = up.0 in omega (arith, l, h)
    by (row.Interrupt source x badge) before l = let h = up.0 in omega (arith, l, h)

-- at first the words are set at 0
first-zero : (n : ℕ) (threads : List ThreadPart) (notes : List NotePart) (i : ℕ) → (get_or (firsts_from n threads notes) i no_word).since ≡ 0
first-zero n threads [] i = refl
first-zero n threads (note ∷ notes) zero = refl
first-zero n threads (note ∷ notes) (suc i) = first-zero (suc n) threads notes i

module _ (system : System) where
  word-within : (note m : ℕ) (past : List Row) → UpTo m past → (held_of (firsts_of system) note past).since ≤ m
  word-within note m past up = by (nat_lt note (length (firsts_of system)))
    where
      by : (b : Bool) → (cond b (held (get_or (firsts_of system) note no_word) note past) no_word).since ≤ m
      by true = held-within (get_or (firsts_of system) note no_word) note past m (first-zero 0 system.threads system.notes note) up
      by false = omega arith

  -- a round that a word begins
  by-within : (waits bits : Option ℕ) (note word since m : ℕ) (begun before : Option ℕ) → since ≤ m → IsWithin m before
      → IsWithin m (called_by waits bits note word since begun before)
  by-within waits bits note word since m None before l h = by (begins_round waits bits note word)
    where
      by : (b : Bool) → IsWithin m (cond b (Some since) before)
      by true = l
      by false = h
  by-within waits bits note word since m (Some began) before l h = h

  if-within : (b : Bool) (m : ℕ) (now before : Option ℕ) → IsWithin m now → IsWithin m before → IsWithin m (cond b now before)
  if-within true m now before h g = h
  if-within false m now before h g = g

  called-within : (waits bits : Option ℕ) (start x : ℕ) (past : List Row) (m : ℕ) → UpTo m past
      → IsWithin m (called (firsts_of system) waits bits start x past)
  called-within waits bits start x [] m up = tt
  called-within waits bits start x (r ∷ past) m up =
      within-later r.moment m (called (firsts_of system) waits bits start x (r ∷ past)) up.0
      (by (begun waits bits start x past) (called (firsts_of system) waits bits start x past) r.what
      (called-within waits bits start x past r.moment up.1))
    where
      by : (began before : Option ℕ) (what : What) → IsWithin r.moment before → IsWithin r.moment (called_after (firsts_of system) waits bits x past r.moment what began before)
      by began before (row.Got y note word) h =
          if-within (y == x) r.moment (called_by waits bits note word (held_of (firsts_of system) note past).since began before) before
          (by-within waits bits note word (held_of (firsts_of system) note past).since r.moment began before (word-within note r.moment past up.1) h) h
      by began before (row.Wake y note word until) h =
          if-within (y == x) r.moment (called_by waits bits note word r.moment began before) before
          (by-within waits bits note word r.moment r.moment began before (omega arith) h) h
      by began before (row.Release y) h = h
      by began before (row.Run y) h = h
      by began before (row.Stop y cause charged until) h = h
      by began before (row.Signal y note badge) h = h
      by began before (row.Arrive note badge maker) h = h
      by began before (row.Hold note word) h = h
      by began before (row.Round y number response) h = h
      by began before (row.Order context) h = h
      by began before (row.Interrupt source note badge) h = h

-- the first of n ticks is before the end of them
first-within : (rows : List Row) (from n : ℕ) → 1 ≤ n → IsWithin (from + n) (first_for rows from n)
first-within rows from zero l = absurd (omega (arith, l))
first-within rows from (suc zero) l = by (is_active (standing_at (from + 0) rows))
  where
    by : (b : Bool) → IsWithin (from + 1) (or_tick None b (from + 0))
    by true = omega arith
    by false = tt
first-within rows from (suc (suc n)) l = by (first_for rows from (suc n)) (first-within rows from (suc n) (omega arith))
  where
    at : (b : Bool) → IsWithin (from + suc (suc n)) (or_tick None b (from + suc n))
    at true = omega arith
    at false = tt

    by : (o : Option ℕ) → IsWithin (from + suc n) o → IsWithin (from + suc (suc n)) (or_tick o (is_active (standing_at (from + suc n) rows)) (from + suc n))
    by (Some a) h = omega (arith, h)
    by None h = at (is_active (standing_at (from + suc n) rows))

active-within : (x from to : ℕ) (past : List Row) → IsWithin to (first_active x past from to)
active-within x from to past = by (to - from) refl
  where
    by : (n : ℕ) → to - from ≡ n → IsWithin to (first_for (telling x past) from n)
    by zero e = tt
    by (suc n) e = within-later (from + suc n) to (first_for (telling x past) from (suc n)) (omega (arith, e)) (first-within (telling x past) from (suc n) (omega arith))

module _ (system : System) (x m : ℕ) (past : List Row) (up : UpTo m past) where
  activated-by : (waits called active : Option ℕ) → IsWithin m called → IsWithin m active → IsWithin m (activated_by waits called active)
  activated-by (Some note) called active h g = h
  activated-by None called active h g = g

  activated-within : IsWithin m (activated_of system x past m)
  activated-within = by (begun_of system x past)
    where
      by : (o : Option ℕ) → IsWithin m (activated_in system x past m o)
      by None = tt
      by (Some from) =
          activated-by (first_wait (thread_part system x)) (called_of system x past) (first_active x past from m)
          (called-within system (first_wait (thread_part system x)) (bits_of (thread_part system x)) (thread_part system x).start x past m up)
          (active-within x from m past)

  -- in a round, or else now
  pub or-now-within : or_now m (activated_of system x past m) ≤ m
  or-now-within = by (activated_of system x past m) activated-within
    where
      by : (o : Option ℕ) → IsWithin m o → or_now m o ≤ m
      by None h = omega arith
      by (Some a) h = h

  pub since-within : (activated : ℕ) → activated_of system x past m ≡ Some activated → activated ≤ m
  since-within activated e = let P : Option ℕ → Type 0 = IsWithin m in subst P e activated-within
