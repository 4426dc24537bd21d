-- The threads of a line, each named by the one before it, the first by the last.
use Rattle.std.proofs.Common.{◌≡◌, ◌≢◌, ℕ, zero, suc, ◌<◌, ◌≤◌, List, [], ◌∷◌, ◌++◌, length, get_or, set, refl, sym, ap, ◌∙◌, inl, inr, arith, get_or-set_same, get_or-set_other, length-set}
use Rattle.std.proofs.lemmas.Bool.{cases_eq, eq-eqb, ne_eqb}
use Rattle.std.proofs.lemmas.Bool.Decides.{nat_tests}
use Rattle.std.proofs.lemmas.Grind.{common_steps}
use Rattle.mcs_ready.specs.stored.Lines.{no_thread, line_to, threads_of, all_threads, times}
use Rattle.mcs_ready.proofs.Times.{times-cons_same}

-- if a line is shorter than its bound, the last is reached, so a greater bound does not change the
-- line
pub line-more : (next : List ℕ) (last n x : ℕ) → length (line_to next last n x) < n → line_to next last (suc n) x ≡ line_to next last n x
line-more next last zero x few = absurd (omega arith)
line-more next last (suc n) x few = grind (arith, line-more next last n (get_or next x 0))

-- and one fewer
pub line-less : (next : List ℕ) (last n x : ℕ) → length (line_to next last (suc n) x) ≤ n → line_to next last (suc n) x ≡ line_to next last n x
line-less next last zero x few = absurd (omega arith)
line-less next last (suc n) x few = grind (arith, line-less next last n (get_or next x 0))

-- so the last one stands there
pub line-stands : (next : List ℕ) (last n x : ℕ) → length (line_to next last n x) < n → 1 ≤ times last (line_to next last n x)
line-stands next last zero x few = absurd (omega arith)
line-stands next last (suc n) x few = grind (arith, nat_tests, line-stands next last n (get_or next x 0))

-- a thread that does not stand there names another one
pub line-other : (next : List ℕ) (last n x y z : ℕ) → times y (line_to next last n x) ≡ 0 → line_to (set next y z) last n x ≡ line_to next last n x
line-other next last zero x y z none = refl
line-other next last (suc n) x y z none = grind (arith, nat_tests, common_steps, line-other next last n (get_or next x 0) y z)

-- the last one names another one
pub line-last : (next : List ℕ) (last n x z : ℕ) → line_to (set next last z) last n x ≡ line_to next last n x
line-last next last zero x z = refl
line-last next last (suc n) x z = grind (arith, nat_tests, common_steps, line-last next last n (get_or next x 0) z)

-- the last one names x, which is the last now
pub line-back : (next : List ℕ) (last n first x : ℕ) → last < length next → length (line_to next last n first) < n →
    times x (line_to next last n first) ≡ 0 → line_to (set next last x) x (suc n) first ≡ line_to next last n first ++ x ∷ []
line-back next last zero first x below few none = absurd (omega arith)
line-back next last (suc n) first x below few none = grind (arith, nat_tests, common_steps, line-back next last n (get_or next first 0) x below)

-- the last thread of a line that is no longer than the places occurs in it
pub last-stands : (next : List ℕ) (last : ℕ) → last ≢ no_thread → length (threads_of next last) ≤ length next → 1 ≤ times last (threads_of next last)
last-stands next last some few =
    let line : length (line_to next last (suc (length next)) (get_or next last 0)) ≤ length next = rw (ne_eqb last no_thread some) at few in
    rw (ne_eqb last no_thread some) (line-stands next last (suc (length next)) (get_or next last 0) (omega arith))

-- a thread of no such line names another one
pub threads-other : (next : List ℕ) (last y z : ℕ) → length (threads_of next last) ≤ length next → times y (threads_of next last) ≡ 0 →
    threads_of (set next y z) last ≡ threads_of next last
threads-other next last y z few none = elim (cases_eq last no_thread) [
  | inl e ↦ rw (eq-eqb last no_thread e) refl
  | inr some ↦
      let ne : last ≢ y = λ e. absurd (omega (arith, last-stands next last some few, ap (λ (w : ℕ). times w (threads_of next last)) e)) in
      let none_there : times y (line_to next last (suc (length next)) (get_or next last 0)) ≡ 0 = rw (ne_eqb last no_thread some) at none in
      rw (ne_eqb last no_thread some, length-set next y z, get_or-set_other next y last z 0 ne)
      (line-other next last (suc (length next)) (get_or next last 0) y z none_there)
]

-- one line is changed
pub lines-changed : (next next' lasts : List ℕ) (i last : ℕ) (line : List ℕ) → threads_of next' last ≡ line →
    ((j : ℕ) → j ≢ i → threads_of next' (get_or lasts j no_thread) ≡ threads_of next (get_or lasts j no_thread)) →
    all_threads next' (set lasts i last) ≡ set (all_threads next lasts) i line
lines-changed next next' [] i last line now same = refl
lines-changed next next' (l ∷ lasts) zero last line now same =
    let rest = all-same lasts (λ j. same (suc j) (λ e. cc)) in
    cc
  where
    all-same : (lasts : List ℕ) → ((j : ℕ) → threads_of next' (get_or lasts j no_thread) ≡ threads_of next (get_or lasts j no_thread)) →
        all_threads next' lasts ≡ all_threads next lasts
    all-same [] same = refl
    all-same (l ∷ lasts) same =
        let here = same zero in
        let rest = all-same lasts (λ j. same (suc j)) in
        cc
lines-changed next next' (l ∷ lasts) (suc i) last line now same =
    let here = same zero (λ e. cc) in
    let rest = lines-changed next next' lasts i last line now (λ j ne. same (suc j) (λ e. ne (suc-injective e))) in
    cc
  where
    suc-injective : {j : ℕ} → suc j ≡ suc i → j ≡ i
    suc-injective e = omega arith

-- a thread enters between the last one and the first
module _ (next : List ℕ) (last x : ℕ) (some : last ≢ no_thread) (last_below : last < length next) (x_below : x < length next) (ne : x ≢ last)
    (none : times x (threads_of next last) ≡ 0) (few : length (threads_of next last) ≤ length next) where
  abbrev first : ℕ
  first = get_or next last 0

  abbrev opened : List ℕ
  opened = set next x first

  abbrev entered : List ℕ
  entered = set opened last x

  length-entered : length entered ≡ length next
  length-entered = length-set (set next x first) last x ∙ length-set next x first

  behind_last : get_or entered last 0 ≡ x
  behind_last = get_or-set_same opened last x 0 (rw (length-set next x first) last_below)

  behind_x : get_or entered x 0 ≡ first
  behind_x = get_or-set_other opened last x x 0 ne ∙ get_or-set_same next x first 0 x_below

  there : threads_of next last ≡ line_to next last (suc (length next)) first
  there = rw (ne_eqb last no_thread some) refl

  less : line_to next last (suc (length next)) first ≡ line_to next last (length next) first
  less = line-less next last (length next) first (rw there at few)

  same : line_to opened last (length next) first ≡ line_to next last (length next) first
  same = line-other next last (length next) first x first (ap (times x) (sym (there ∙ less)) ∙ none)

  -- it is the first now
  pub threads-front : threads_of entered last ≡ x ∷ threads_of next last
  threads-front =
      rw there (
      rw (ne_eqb last no_thread some, length-entered, behind_last, ne_eqb x last ne, behind_x)
      (ap (λ (xs : List ℕ). x ∷ xs) (line-last opened last (length next) first x ∙ same ∙ sym less))
      )

  -- or the last
  pub threads-back : x ≢ no_thread → length (threads_of next last) < length next → threads_of entered x ≡ threads_of next last ++ x ∷ []
  threads-back x_some fewer =
      let within : last < length opened = rw (length-set next x first) last_below in
      let all = there ∙ less ∙ sym same in
      rw all (
      rw (ne_eqb x no_thread x_some, length-entered, behind_x)
      (line-back opened last (length next) first x within (rw all at fewer) (ap (times x) (sym all) ∙ none))
      )

-- the first one leaves, and is not the last
pub threads-rest : (next : List ℕ) (last : ℕ) → last ≢ no_thread → last < length next → get_or next last 0 ≢ last →
    times (get_or next last 0) (threads_of next last) ≤ 1 → length (threads_of next last) ≤ length next →
    threads_of next last ≡ get_or next last 0 ∷ threads_of (set (set next last (get_or next (get_or next last 0) 0)) (get_or next last 0) no_thread) last
threads-rest next last some below ne once few =
    let first = get_or next last 0 in
    let second = get_or next first 0 in
    let closed = set next last second in
    let rest = line_to next last (length next) second in
    let there : threads_of next last ≡ first ∷ rest = rw (ne_eqb last no_thread some, ne_eqb first last ne) refl in
    let fewer : length (first ∷ rest) ≤ length next = rw there at few in
    let one : times first (first ∷ rest) ≤ 1 = rw there at once in
    let len : length (set closed first no_thread) ≡ length next = length-set closed first no_thread ∙ length-set next last second in
    let behind : get_or (set closed first no_thread) last 0 ≡ second = get_or-set_other closed first last no_thread 0 (λ e. ne (sym e)) ∙ get_or-set_same next last second 0 below in
    let same : line_to closed last (suc (length next)) second ≡ rest = line-last next last (suc (length next)) second second ∙ line-more next last (length next) second (omega arith) in
    let none : times first (line_to closed last (suc (length next)) second) ≡ 0 = ap (times first) same ∙ omega (arith, times-cons_same first rest) in
    rw there (
    rw (ne_eqb last no_thread some, len, behind) (ap (λ (xs : List ℕ). first ∷ xs) (sym (line-other closed last (suc (length next)) second first no_thread none ∙ same)))
    )
