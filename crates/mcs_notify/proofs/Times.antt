-- How often a thread waits.
use Rattle.std.proofs.Common.{◌≡◌, ◌≢◌, ℕ, zero, suc, ◌+◌, ◌<◌, ◌≤◌, ◌==◌, Bool, true, false, cond, List, [], ◌∷◌, ◌++◌, length, get_or, set, refl, sym, ap, ◌∙◌, inl, inr, arith}
use Rattle.std.specs.Prelude.{◌||◌}
use Rattle.std.specs.List.{list_any}
use Rattle.std.proofs.lemmas.Bool.{cases_eq, cases_lt, eq-eqb, ne_eqb, false≢true}
use Rattle.mcs_ticks.specs.declared.queue.Queued.{Queued}
use Rattle.mcs_ticks.specs.Queue.{without}
use Rattle.mcs_notify.specs.Note.{Note, quiet_note, is_waiting}
use Rattle.mcs_notify.specs.stored.Lines.{last_or, times, times_in}

pub times-cons_same : (x : ℕ) (q : Queued) (qs : List Queued) → q.thread ≡ x → times x (q ∷ qs) ≡ 1 + times x qs
times-cons_same x q qs e = rw (eq-eqb q.thread x e) refl

pub times-cons_other : (x : ℕ) (q : Queued) (qs : List Queued) → q.thread ≢ x → times x (q ∷ qs) ≡ times x qs
times-cons_other x q qs ne = rw (ne_eqb q.thread x ne) (omega arith)

pub times-append : (x : ℕ) (ys zs : List Queued) → times x (ys ++ zs) ≡ times x ys + times x zs
times-append x [] zs = omega arith
times-append x (y ∷ ys) zs = omega (arith, times-append x ys zs)

-- the last of the waiters waits
pub times-last : (q : Queued) (qs : List Queued) → 0 < times (last_or q.thread qs) (q ∷ qs)
times-last q [] = omega (arith, times-cons_same q.thread q [] refl)
times-last q (r ∷ qs) = omega (arith, times-last r qs)

-- without a thread
pub times-without : (x y : ℕ) (qs : List Queued) → times x (without y qs) ≤ times x qs
times-without x y [] = omega arith
times-without x y (q ∷ qs) = by (q.thread == y) (times-without x y qs)
  where
    by : (b : Bool) → times x (without y qs) ≤ times x qs → times x (cond b qs (q ∷ without y qs)) ≤ times x (q ∷ qs)
    by true h = omega arith
    by false h = omega (arith, h)

pub without-cons_same : (y : ℕ) (q : Queued) (qs : List Queued) → q.thread ≡ y → without y (q ∷ qs) ≡ qs
without-cons_same y q qs e = rw (eq-eqb q.thread y e) refl

pub without-cons_other : (y : ℕ) (q : Queued) (qs : List Queued) → q.thread ≢ y → without y (q ∷ qs) ≡ q ∷ without y qs
without-cons_other y q qs ne = rw (ne_eqb q.thread y ne) refl

-- if another thread is the last, it stays the last
pub last_or-without : (d y : ℕ) (qs : List Queued) → last_or d qs ≢ y → last_or d (without y qs) ≡ last_or d qs
last_or-without d y [] ne = refl
last_or-without d y (q ∷ qs) ne = elim (cases_eq q.thread y) [
  | inl e ↦ ap (last_or d) (without-cons_same y q qs e) ∙ rest qs e ne
  | inr other ↦ ap (last_or d) (without-cons_other y q qs other) ∙ last_or-without q.thread y qs ne
]
  where
    rest : (qs : List Queued) → q.thread ≡ y → last_or q.thread qs ≢ y → last_or d qs ≡ last_or q.thread qs
    rest [] e ne = absurd (ne e)
    rest (r ∷ qs) e ne = refl

-- in all lines
pub times-le-times_in : (x i : ℕ) (notes : List Note) → times x (get_or notes i quiet_note).waiters ≤ times_in x notes
times-le-times_in x i [] = omega arith
times-le-times_in x zero (note ∷ notes) = omega arith
times-le-times_in x (suc i) (note ∷ notes) = omega (arith, times-le-times_in x i notes)

pub times_in-set : (x i : ℕ) (notes : List Note) (note : Note) → i < length notes →
    times_in x (set notes i note) + times x (get_or notes i quiet_note).waiters ≡ times_in x notes + times x note.waiters
times_in-set x i [] note h = absurd (omega arith)
times_in-set x zero (old ∷ notes) note h = omega arith
times_in-set x (suc i) (old ∷ notes) note h =
    let below : i < length notes = omega arith in
    omega (arith, times_in-set x i notes note below)

-- a thread that waits on no notification occurs in no line
pub times_in-free : (x : ℕ) (notes : List Note) → is_waiting x notes ≡ false → times_in x notes ≡ 0
times_in-free x [] free = refl
times_in-free x (note ∷ notes) free =
    let here : (list_any (λ (q : Queued). q.thread == x) note.waiters ≡ false) × (is_waiting x notes ≡ false) = neither _ _ free in
    omega (arith, none note.waiters here.0, times_in-free x notes here.1)
  where
    neither : (a b : Bool) → (a || b) ≡ false → (a ≡ false) × (b ≡ false)
    neither true b e = absurd (false≢true (sym e))
    neither false b e = (refl, e)

    none : (qs : List Queued) → list_any (λ (q : Queued). q.thread == x) qs ≡ false → times x qs ≡ 0
    none [] e = refl
    none (q ∷ qs) e = let here = neither (q.thread == x) _ e in rw here.0 (omega (arith, none qs here.1))

-- how many of them are below a number
count_below : ℕ → List Queued → ℕ
count_below zero qs = 0
count_below (suc n) qs = times n qs + count_below n qs

count_below-cons : (n : ℕ) (q : Queued) (qs : List Queued) → q.thread < n → count_below n (q ∷ qs) ≡ 1 + count_below n qs
unfolding count_below
count_below-cons zero q qs h = absurd (omega arith)
count_below-cons (suc n) q qs h = elim (cases_lt q.thread n) [
  | inl below ↦
      let other : q.thread ≢ n = omega arith in
      omega (arith, times-cons_other n q qs other, count_below-cons n q qs below)
  | inr past ↦
      let same : q.thread ≡ n = omega arith in
      omega (arith, times-cons_same n q qs same, past_all n (omega arith))
]
  where
    past_all : (m : ℕ) → m ≤ q.thread → count_below m (q ∷ qs) ≡ count_below m qs
    past_all zero h = refl
    past_all (suc m) h =
        let other : q.thread ≢ m = omega arith in
        omega (arith, times-cons_other m q qs other, past_all m (omega arith))

length-le-count_below : (n : ℕ) (qs : List Queued) → ((x : ℕ) → 0 < times x qs → x < n) → length qs ≤ count_below n qs
length-le-count_below n [] below = omega arith
length-le-count_below n (q ∷ qs) below =
    let here = below q.thread (omega (arith, times-cons_same q.thread q qs refl)) in
    omega (arith, count_below-cons n q qs here, length-le-count_below n qs (λ x h. below x (omega arith)))

count_below-le : (n : ℕ) (qs : List Queued) → ((x : ℕ) → times x qs ≤ 1) → count_below n qs ≤ n
unfolding count_below
count_below-le zero qs once = omega arith
count_below-le (suc n) qs once = omega (arith, once n, count_below-le n qs once)

-- threads below a number, each waiting once, are at most that number
pub length-le-room : (n : ℕ) (qs : List Queued) → ((x : ℕ) → times x qs ≤ 1) → ((x : ℕ) → 0 < times x qs → x < n) → length qs ≤ n
length-le-room n qs once below = omega (arith, length-le-count_below n qs below, count_below-le n qs once)
