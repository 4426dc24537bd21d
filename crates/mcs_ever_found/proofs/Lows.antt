-- No word was set, and no round was activated by one, later than the rows so far.
use Rattle.std.proofs.Common.{◌≡◌, ℕ, zero, suc, ◌+◌, ◌<◌, ◌≤◌, Bool, true, false, cond, ◌==◌, ◌&&◌, List, [], ◌∷◌, length, get_or, refl, sym, ap, subst, ◌∙◌, Option, Some, None, arith}
use Rattle.std.specs.Prelude.{nat_lt}
use Rattle.std.proofs.lemmas.Bool.Decides.{nat_tests}
use Rattle.mcs_ticks.specs.declared.row.Row.{Row}
use Rattle.mcs_ticks.specs.declared.row.What.{What}
use Rattle.mcs_ticks.specs.declared.row.What.TheVariants as row
use Rattle.mcs_system.specs.declared.part.NotePart.{NotePart}
use Rattle.mcs_system.specs.declared.part.ThreadPart.{ThreadPart}
use Rattle.mcs_system.specs.System.{System, thread_part}
use Rattle.mcs_verdict.specs.declared.held.Held.{Held}
use Rattle.mcs_verdict.specs.Calls.{first_wait, is_set, bits_of}
use Rattle.mcs_verdict.specs.Findings.{UpTo}
use Rattle.mcs_verdict.specs.Rounds.{begins_round, begun_of, called_by, called_after, called_of}
use Rattle.mcs_verdict.specs.Words.{no_word, held_with, gave, taken, held_after, held, held_of, firsts_from, firsts_of}
use Rattle.mcs_verdict.proofs.Orders.{up_to-later}
use Rattle.mcs_verdict_laws.proofs.Fits.{first_held, held_in}
use Rattle.mcs_ever_found.proofs.Open.{some-same, none-some}

-- at first each word was set at time 0
firsts-zero : (n note : ℕ) (threads : List ThreadPart) (parts : List NotePart) → (get_or (firsts_from n threads parts) note no_word).since ≡ 0
firsts-zero n note threads [] = refl
firsts-zero n zero threads (part ∷ parts) = refl
firsts-zero n (suc note) threads (part ∷ parts) = firsts-zero (suc n) note threads parts

since-after : (note m n : ℕ) (what : What) (before : Held) → m ≤ n → before.since ≤ n → (held_after note m what before).since ≤ n
since-after note m n (row.Hold y word) before l h = by (y == note)
  where
    set : (b : Bool) → cond b before.since m ≤ n
    set true = h
    set false = l

    by : (b : Bool) → (cond b (held_with m word before) before).since ≤ n
    by true = set (is_set before.bits before.word)
    by false = h
since-after note m n (row.Got x y word) before l h = by (y == note)
  where
    by : (b : Bool) → (cond b (taken word before) before).since ≤ n
    by true = h
    by false = h
since-after note m n (row.Wake x y word until) before l h = by (y == note)
  where
    by : (b : Bool) → (cond b (gave word before) before).since ≤ n
    by true = h
    by false = h
since-after note m n (row.Release x) before l h = h
since-after note m n (row.Run x) before l h = h
since-after note m n (row.Stop x cause charged until) before l h = h
since-after note m n (row.Signal x y badge) before l h = h
since-after note m n (row.Arrive y badge maker) before l h = h
since-after note m n (row.Round x number response) before l h = h
since-after note m n (row.Order context) before l h = h
since-after note m n (row.Interrupt source at_note badge) before l h = h

pub since-low : (system : System) (note n : ℕ) (past : List Row) → UpTo n past → (held_in system note past).since ≤ n
since-low system note n [] up = let z = firsts-zero 0 note system.threads system.notes in omega (arith, z)
since-low system note n (r ∷ past) up =
    since-after note r.moment n r.what (held_in system note past) up.0 (since-low system note n past (up_to-later r.moment n past up.0 up.1))

since-of : (system : System) (note n : ℕ) (past : List Row) → UpTo n past → (held_of (firsts_of system) note past).since ≤ n
since-of system note n past up = by (nat_lt note (length (firsts_of system)))
  where
    by : (b : Bool) → (cond b (held_in system note past) no_word).since ≤ n
    by true = since-low system note n past up
    by false = omega arith

called-by : (waits bits : Option ℕ) (note word set n a : ℕ) (begun before : Option ℕ) → set ≤ n → ((b : ℕ) → before ≡ Some b → b ≤ n)
    → called_by waits bits note word set begun before ≡ Some a → a ≤ n
called-by waits bits note word set n a (Some from) before l h e = h a e
called-by waits bits note word set n a None before l h e = by (begins_round waits bits note word) e
  where
    by : (c : Bool) → cond c (Some set) before ≡ Some a → a ≤ n
    by true f = let same = some-same set a f in omega (arith, same, l)
    by false f = h a f

called-after : (system : System) (x m n a : ℕ) (waits bits : Option ℕ) (past : List Row) (what : What) (begun before : Option ℕ) → m ≤ n → UpTo m past
    → ((b : ℕ) → before ≡ Some b → b ≤ n) → called_after (firsts_of system) waits bits x past m what begun before ≡ Some a → a ≤ n
called-after system x m n a waits bits past (row.Got y note word) begun before l up h e = by (y == x) e
  where
    by : (c : Bool) → cond c (called_by waits bits note word (held_of (firsts_of system) note past).since begun before) before ≡ Some a → a ≤ n
    by true f =
        let low = since-of system note m past up in
        called-by waits bits note word (held_of (firsts_of system) note past).since n a begun before (omega (arith, l, low)) h f
    by false f = h a f
called-after system x m n a waits bits past (row.Wake y note word until) begun before l up h e = by (y == x) e
  where
    by : (c : Bool) → cond c (called_by waits bits note word m begun before) before ≡ Some a → a ≤ n
    by true f = called-by waits bits note word m n a begun before l h f
    by false f = h a f
called-after system x m n a waits bits past (row.Release y) begun before l up h e = h a e
called-after system x m n a waits bits past (row.Run y) begun before l up h e = h a e
called-after system x m n a waits bits past (row.Stop y cause charged until) begun before l up h e = h a e
called-after system x m n a waits bits past (row.Signal y note badge) begun before l up h e = h a e
called-after system x m n a waits bits past (row.Arrive note badge maker) begun before l up h e = h a e
called-after system x m n a waits bits past (row.Hold note word) begun before l up h e = h a e
called-after system x m n a waits bits past (row.Round y number response) begun before l up h e = h a e
called-after system x m n a waits bits past (row.Order context) begun before l up h e = h a e
called-after system x m n a waits bits past (row.Interrupt source at_note badge) begun before l up h e = h a e

pub called-low : (system : System) (x n a : ℕ) (past : List Row) → UpTo n past → called_of system x past ≡ Some a → a ≤ n
called-low system x n a [] up e = absurd (none-some a e)
called-low system x n a (r ∷ past) up e =
    called-after system x r.moment n a (first_wait (thread_part system x)) (bits_of (thread_part system x)) past r.what (begun_of system x past)
    (called_of system x past) up.0 up.1 (λ b f. called-low system x n b past (up_to-later r.moment n past up.0 up.1) f) e
