-- Rows in the order of their times, and what stays since a thread's latest telling row.
use Rattle.std.proofs.Common.{◌≡◌, ℕ, Bool, true, false, max, ◌≤◌, ◌<◌, List, [], ◌∷◌, get_or, Option, Some, None, refl, arith}
use Rattle.std.proofs.lemmas.Bool.Decides.{nat_tests}
use Rattle.mcs_ticks.specs.declared.row.Row.{Row}
use Rattle.mcs_ticks.specs.declared.row.What.{What}
use Rattle.mcs_verdict.specs.declared.held.Held.{Held}
use Rattle.mcs_verdict.specs.Standing.{tells, telling}
use Rattle.mcs_verdict.specs.Words.{no_word, held_after, held, word_for}
use Rattle.mcs_verdict.specs.Findings.{UpTo}
use Rattle.mcs_verdict.specs.Account.{since_of, before_telling, set_before}

pub up_to-later : (m n : ℕ) (past : List Row) → m ≤ n → UpTo m past → UpTo n past
up_to-later m n [] h up = tt
up_to-later m n (r ∷ past) h up = (omega (arith, up.0), up.1)

-- the latest telling row is of no later moment than all rows
pub since-up_to : (thread m : ℕ) (past : List Row) → UpTo m past → since_of (telling thread past) ≤ m
since-up_to thread m [] h = omega arith
since-up_to thread m (r ∷ past) h = grind (arith, since-up_to thread r.moment past h.1, h.0)

-- a row after which the thread stands differently sets no word
since-told : (note thread m : ℕ) (what : What) (before : Held) → tells thread what ≡ true → (held_after note m what before).since ≡ before.since
since-told note thread m what before e = grind (arith, nat_tests)

-- and a word that a row does not set stays as it was set
since-after : (note m s : ℕ) (what : What) (before : Held) → (held_after note m what before).since < s → s ≤ m → (held_after note m what before).since ≡ before.since
since-after note m s what before less most = grind (arith, nat_tests)

-- a word that was set before the latest telling row was set so already then
since-stays : (first : Held) (note thread : ℕ) (past : List Row) (m : ℕ) → UpTo m past → (held first note past).since < since_of (telling thread past)
    → (held first note (before_telling thread past)).since ≡ (held first note past).since
since-stays first note thread [] m up less = refl
since-stays first note thread (r ∷ past) m up less = by (tells thread r.what) refl (since-stays first note thread past r.moment up.1)
  where
    by : (b : Bool) → tells thread r.what ≡ b
        → ((held first note past).since < since_of (telling thread past) → (held first note (before_telling thread past)).since ≡ (held first note past).since)
        → (held first note (before_telling thread (r ∷ past))).since ≡ (held first note (r ∷ past)).since
    by true e before = grind (arith, e, since-told note thread r.moment r.what (held first note past) e)
    by false e before =
        let most = since-up_to thread r.moment past up.1 in
        let less' : (held_after note r.moment r.what (held first note past)).since < since_of (telling thread past) = rw e at less in
        let stays = since-after note r.moment (since_of (telling thread past)) r.what (held first note past) less' most in
        grind (arith, e, stays, before (omega (arith, less', stays)))

pub set_stays : (firsts : List Held) (waits : Option ℕ) (thread m free : ℕ) (past : List Row) → UpTo m past
    → max (word_for firsts waits past).since free < since_of (telling thread past) → set_before firsts waits thread past ≡ (word_for firsts waits past).since
set_stays firsts None thread m free past up less = refl
set_stays firsts (Some note) thread m free past up less =
    grind (arith, nat_tests, since-stays (get_or firsts note no_word) note thread past m up)
