-- Rows without the ends of rounds of threads that only compute: they say the same of each word, and of
-- each other thread.
use Rattle.std.proofs.Common.{◌≡◌, ℕ, Bool, true, false, cond, nat_lt, List, [], ◌∷◌, filter, length, get_or, Option, Some, None, refl, sym, ap, ◌∙◌, arith}
use Rattle.std.specs.Prelude.{◌||◌}
use Rattle.std.proofs.lemmas.Bool.{cond_both, cond-true, cond-false}
use Rattle.std.proofs.lemmas.Bool.Decides.{nat_tests}
use Rattle.mcs_ticks.specs.declared.row.Row.{Row}
use Rattle.mcs_ticks.specs.declared.row.What.{What}
use Rattle.mcs_ticks.specs.declared.row.What.TheVariants as row
use Rattle.mcs_system.specs.System.{System, thread_part}
use Rattle.mcs_verdict.specs.declared.held.Held.{Held}
use Rattle.mcs_verdict.specs.Standing.{tells, telling}
use Rattle.mcs_verdict.specs.Calls.{first_wait, bits_of}
use Rattle.mcs_verdict.specs.Parts.{free_after, free, free_of}
use Rattle.mcs_verdict.specs.Rounds.{begun_after, begun, begun_of, called_after, called, called_of, rounds_after, rounds_of}
use Rattle.mcs_verdict.specs.Jobs.{preemptions_after, preemptions, preemptions_of}
use Rattle.mcs_verdict.specs.Words.{no_word, held, held_after, held_of, firsts_of}
use Rattle.mcs_verdict.specs.Misses.{word_for}
use Rattle.mcs_verdict.specs.Findings.{past_of}
use Rattle.mcs_spin.specs.Spun.{spun, is_spun, stays_as, stays}
use Rattle.mcs_spin.specs.laws.Verdicts.{PassesNoRound, has_passed}
use Rattle.mcs_spin.proofs.FirstWords.{firsts-spun}
use Rattle.mcs_spin.proofs.Parts.{part-other}

-- a word that is taken is the same by both
called-same : (firsts : List Held) (waits bits : Option ℕ) (thread : ℕ) (some all : List Row) (m : ℕ) (what : What) (begun before : Option ℕ)
    → ((note : ℕ) → held_of firsts note some ≡ held_of firsts note all)
    → called_after firsts waits bits thread some m what begun before ≡ called_after firsts waits bits thread all m what begun before
called-same firsts waits bits thread some all m (row.Got x note word) begun before same = rw (same note) refl
called-same firsts waits bits thread some all m (row.Release x) begun before same = refl
called-same firsts waits bits thread some all m (row.Run x) begun before same = refl
called-same firsts waits bits thread some all m (row.Stop x cause charged until) begun before same = refl
called-same firsts waits bits thread some all m (row.Signal x n badge) begun before same = refl
called-same firsts waits bits thread some all m (row.Arrive n badge maker) begun before same = refl
called-same firsts waits bits thread some all m (row.Wake x n word until) begun before same = refl
called-same firsts waits bits thread some all m (row.Hold n word) begun before same = refl
called-same firsts waits bits thread some all m (row.Round x number response) begun before same = refl
called-same firsts waits bits thread some all m (row.Order context) begun before same = refl
called-same firsts waits bits thread some all m (row.Interrupt source n badge) begun before same = refl

module _ (system : System) where
  abbrev pub left : List Row → List Row
  left rows = filter (stays system) rows

  -- a row stays, or is left out
  pub by-row : (P : List Row → Type 0) (r : Row) (past : List Row) → (stays system r ≡ true → P (r ∷ left past))
      → (stays system r ≡ false → P (left past)) → P (left (r ∷ past))
  by-row P r past = cond_both (stays system r) (r ∷ left past) (left past) P

  pub left-stays : (r : Row) (past : List Row) → stays system r ≡ true → left (r ∷ past) ≡ r ∷ left past
  left-stays r past e = cond-true (stays system r) (r ∷ left past) (left past) e

  pub left-out : (r : Row) (past : List Row) → stays system r ≡ false → left (r ∷ past) ≡ left past
  left-out r past e = cond-false (stays system r) (r ∷ left past) (left past) e

  pub past-left : (past rows : List Row) → past_of (left past) (left rows) ≡ left (past_of past rows)
  past-left past [] = refl
  past-left past (r ∷ rows) =
      let later = past-left (r ∷ past) rows in
      by-row (λ some. past_of (left past) some ≡ left (past_of past (r ∷ rows))) r rows
      (λ e. ap (λ some. past_of some (left rows)) (sym (left-stays r past e)) ∙ later)
      (λ e. ap (λ some. past_of some (left rows)) (sym (left-out r past e)) ∙ later)

  held-out : (note m : ℕ) (what : What) (before : Held) → stays_as system what ≡ false → held_after note m what before ≡ before
  held-out note m what before out = grind (arith, out)

  tells-out : (thread : ℕ) (what : What) → stays_as system what ≡ false → tells thread what ≡ false
  tells-out thread what out = grind (arith, out)

  test-out : (test : What → Bool) → PassesNoRound test → (what : What) → stays_as system what ≡ false → test what ≡ false
  test-out test none what out = grind (arith, out, none)

  -- a word by the rows that stay
  held-left : (first : Held) (note : ℕ) (past : List Row) → held first note (left past) ≡ held first note past
  held-left first note [] = refl
  held-left first note (r ∷ past) =
      let before = held-left first note past in
      by-row (λ some. held first note some ≡ held first note (r ∷ past)) r past
      (λ e. ap (held_after note r.moment r.what) before)
      (λ e. before ∙ sym (held-out note r.moment r.what (held first note past) e))

  pub word-left : (firsts : List Held) (note : ℕ) (past : List Row) → held_of firsts note (left past) ≡ held_of firsts note past
  word-left firsts note past = ap (λ (held : Held). cond (nat_lt note (length firsts)) held no_word) (held-left (get_or firsts note no_word) note past)

  pub first-left : (firsts : List Held) (waits : Option ℕ) (past : List Row) → word_for firsts waits (left past) ≡ word_for firsts waits past
  first-left firsts None past = refl
  first-left firsts (Some note) past = word-left firsts note past

  -- how a thread stands
  pub telling-left : (thread : ℕ) (past : List Row) → telling thread (left past) ≡ telling thread past
  telling-left thread [] = refl
  telling-left thread (r ∷ past) =
      let before = telling-left thread past in
      by-row (λ some. telling thread some ≡ telling thread (r ∷ past)) r past
      (λ e. ap (λ rows. cond (tells thread r.what) (r ∷ rows) rows) before)
      (λ e. before ∙ sym (cond-false (tells thread r.what) (r ∷ telling thread past) (telling thread past) (tells-out thread r.what e)))

  -- whether a row passes a test
  pub passed-left : (test : What → Bool) → PassesNoRound test → (past : List Row) → has_passed test (left past) ≡ has_passed test past
  passed-left test none [] = refl
  passed-left test none (r ∷ past) =
      let before = passed-left test none past in
      by-row (λ some. has_passed test some ≡ has_passed test (r ∷ past)) r past
      (λ e. ap (λ later. test r.what || later) before)
      (λ e. before ∙ sym (ap (λ passes. passes || has_passed test past) (test-out test none r.what e)))

  module _ (thread : ℕ) (other : is_spun system thread ≡ false) where
    begun-out : (waits bits : Option ℕ) (m : ℕ) (what : What) (begun : Option ℕ) → stays_as system what ≡ false → begun_after waits bits thread m what begun ≡ begun
    begun-out waits bits m what begun out = grind (arith, nat_tests, out, other)

    called-out : (firsts : List Held) (waits bits : Option ℕ) (past : List Row) (m : ℕ) (what : What) (begun before : Option ℕ) → stays_as system what ≡ false
        → called_after firsts waits bits thread past m what begun before ≡ before
    called-out firsts waits bits past m what begun before out = grind (arith, nat_tests, out, other)

    free-out : (m : ℕ) (what : What) (before : ℕ) → stays_as system what ≡ false → free_after thread m what before ≡ before
    free-out m what before out = grind (arith, nat_tests, out, other)

    preemptions-out : (begun : Option ℕ) (what : What) (n : ℕ) → stays_as system what ≡ false → preemptions_after thread begun what n ≡ n
    preemptions-out begun what n out = grind (arith, nat_tests, out, other)

    rounds-out : (what : What) (before : ℕ) → stays_as system what ≡ false → rounds_after thread what before ≡ before
    rounds-out what before out = grind (arith, nat_tests, out, other)

    -- what is known of the thread by the rows that stay
    module _ (waits bits : Option ℕ) (start : ℕ) where
      begun-left : (past : List Row) → begun waits bits start thread (left past) ≡ begun waits bits start thread past
      begun-left [] = refl
      begun-left (r ∷ past) =
          let before = begun-left past in
          by-row (λ some. begun waits bits start thread some ≡ begun waits bits start thread (r ∷ past)) r past
          (λ e. ap (begun_after waits bits thread r.moment r.what) before)
          (λ e. before ∙ sym (begun-out waits bits r.moment r.what (begun waits bits start thread past) e))

      called-left : (firsts : List Held) (past : List Row) → called firsts waits bits start thread (left past) ≡ called firsts waits bits start thread past
      called-left firsts [] = refl
      called-left firsts (r ∷ past) =
          let before = called-left firsts past in
          let now = begun waits bits start thread past in
          by-row (λ some. called firsts waits bits start thread some ≡ called firsts waits bits start thread (r ∷ past)) r past
          (λ e. called-same firsts waits bits thread (left past) past r.moment r.what (begun waits bits start thread (left past))
          (called firsts waits bits start thread (left past)) (λ note. word-left firsts note past)
          ∙ ap (λ begun. called_after firsts waits bits thread past r.moment r.what begun (called firsts waits bits start thread (left past))) (begun-left past)
          ∙ ap (called_after firsts waits bits thread past r.moment r.what now) before)
          (λ e. before ∙ sym (called-out firsts waits bits past r.moment r.what now (called firsts waits bits start thread past) e))

      preemptions-left : (past : List Row) → preemptions waits bits start thread (left past) ≡ preemptions waits bits start thread past
      preemptions-left [] = refl
      preemptions-left (r ∷ past) =
          let before = preemptions-left past in
          let now = begun waits bits start thread past in
          by-row (λ some. preemptions waits bits start thread some ≡ preemptions waits bits start thread (r ∷ past)) r past
          (λ e. ap (λ begun. preemptions_after thread begun r.what (preemptions waits bits start thread (left past))) (begun-left past)
          ∙ ap (preemptions_after thread now r.what) before)
          (λ e. before ∙ sym (preemptions-out now r.what (preemptions waits bits start thread past) e))

    free-left : (start : ℕ) (past : List Row) → free start thread (left past) ≡ free start thread past
    free-left start [] = refl
    free-left start (r ∷ past) =
        let before = free-left start past in
        by-row (λ some. free start thread some ≡ free start thread (r ∷ past)) r past
        (λ e. ap (free_after thread r.moment r.what) before)
        (λ e. before ∙ sym (free-out r.moment r.what (free start thread past) e))

    rounds-left : (past : List Row) → rounds_of thread (left past) ≡ rounds_of thread past
    rounds-left [] = refl
    rounds-left (r ∷ past) =
        let before = rounds-left past in
        by-row (λ some. rounds_of thread some ≡ rounds_of thread (r ∷ past)) r past
        (λ e. ap (rounds_after thread r.what) before)
        (λ e. before ∙ sym (rounds-out r.what (rounds_of thread past) e))

    -- what both systems know of the thread
    pub record Same (past : List Row) : Type 0 where
      pub part_is : thread_part (spun system) thread ≡ thread_part system thread
      pub telling_is : telling thread (left past) ≡ telling thread past
      pub begun_is : begun_of (spun system) thread (left past) ≡ begun_of system thread past
      pub called_is : called_of (spun system) thread (left past) ≡ called_of system thread past
      pub free_is : free_of (spun system) thread (left past) ≡ free_of system thread past
      pub preemptions_is : preemptions_of (spun system) thread (left past) ≡ preemptions_of system thread past
      pub rounds_is : rounds_of thread (left past) ≡ rounds_of thread past

    pub same : (past : List Row) → Same past
    same past =
        let part = thread_part system thread in
        let is = part-other system thread other in
        let some = left past in
        record {
          part_is = is;
          telling_is = telling-left thread past;
          begun_is = ap (λ part. begun (first_wait part) (bits_of part) part.start thread some) is ∙ begun-left (first_wait part) (bits_of part) part.start past;
          called_is =
              ap (λ part. called (firsts_of (spun system)) (first_wait part) (bits_of part) part.start thread some) is
              ∙ ap (λ firsts. called firsts (first_wait part) (bits_of part) part.start thread some) (firsts-spun system)
              ∙ called-left (first_wait part) (bits_of part) part.start (firsts_of system) past;
          free_is = ap (λ part. free part.start thread some) is ∙ free-left part.start past;
          preemptions_is =
              ap (λ part. preemptions (first_wait part) (bits_of part) part.start thread some) is
              ∙ preemptions-left (first_wait part) (bits_of part) part.start past;
          rounds_is = rounds-left past;
        }
