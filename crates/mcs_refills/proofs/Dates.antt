-- Dates and refills.
use Rattle.std.proofs.Common.{◌≡◌, ℕ, zero, suc, ◌+◌, ◌-◌, ◌≤◌, List, [], ◌∷◌, ◌++◌, length, map, take, drop, refl, sym, ap, ◌∙◌, append_assoc, append-nil, arith, add-one}
use Rattle.std.specs.List.{range_with_len}
use Rattle.std.proofs.lemmas.Bool.Decides.{nat_tests}
use Rattle.mcs_refills.specs.declared.refill.Refill.{Refill}
use Rattle.mcs_refills.specs.laws.Apart.{IsBefore, AreApart, last_end}
use Rattle.mcs_refills.specs.stored.Refills.{left_after, grown, given_back}
use Rattle.mcs_refills.specs.Server.{dates_of, with_date, refills_of, first_date, last_date, last_moved, rejoined}

-- the first refill may be another one that ends no later
pub IsBefore-end : (r q : Refill) (rs : List Refill) → q.begins + q.amount ≤ r.begins + r.amount → IsBefore r rs → IsBefore q rs
IsBefore-end r q [] l h = tt
IsBefore-end r q (s ∷ rs) l h = omega arith

pub last_end-head : (r q : Refill) (rs : List Refill) → q.begins + q.amount ≤ r.begins + r.amount → last_end (q ∷ rs) ≤ last_end (r ∷ rs)
last_end-head r q [] l = l
last_end-head r q (s ∷ rs) l = omega arith

-- a number's successor, as the definitions write it
pub range-suc : (b n : ℕ) → range_with_len b (n + 1) ≡ b ∷ range_with_len (b + 1) n
range-suc b n = rw add-one refl

with_date-touching : (b n : ℕ) (rs : List Refill) → with_date b (record { begins = b + 1; amount = n } ∷ rs) ≡ record { begins = b; amount = n + 1 } ∷ rs
with_date-touching b n rs = grind (arith, nat_tests)

with_date-apart : (b : ℕ) (rs : List Refill) → IsBefore (record { begins = b; amount = 1 }) rs → with_date b rs ≡ record { begins = b; amount = 1 } ∷ rs
with_date-apart b [] h = refl
with_date-apart b (s ∷ rs) h = grind (arith, nat_tests)

-- one refill before those of the dates after it
refills_of-range : (n b : ℕ) (us : List ℕ) (rs : List Refill) → 1 ≤ n → IsBefore (record { begins = b; amount = n }) rs → refills_of us ≡ rs → refills_of (range_with_len b n ++ us) ≡ record { begins = b; amount = n } ∷ rs
refills_of-range zero b us rs p h e = absurd (omega arith)
refills_of-range (suc zero) b us rs p h e = rw e (with_date-apart b rs h)
refills_of-range (suc (suc n)) b us rs p h e =
    rw (refills_of-range (suc n) (b + 1) us rs (omega arith) (IsBefore-end (record { begins = b; amount = suc (suc n) }) (record { begins = b + 1; amount = suc n }) rs (omega arith) h) e)
    (with_date-touching b (suc n) rs ∙ ap (λ m. record { begins = b; amount = m } ∷ rs) (add-one (suc n)))

-- refills that lie apart are those of their dates
pub refills_of-dates_of : (rs : List Refill) → AreApart rs → refills_of (dates_of rs) ≡ rs
refills_of-dates_of [] h = refl
refills_of-dates_of (r ∷ rs) h = refills_of-range r.amount r.begins (dates_of rs) rs h.0 h.1 (refills_of-dates_of rs h.2)

pub map-range : (p k a : ℕ) → map (λ date. date + p) (range_with_len a k) ≡ range_with_len (a + p) k
map-range p zero a = refl
map-range p (suc k) a = grind (arith, map-range p k (a + 1))

pub take-range : (k n a : ℕ) (us : List ℕ) → k ≤ n → take k (range_with_len a n ++ us) ≡ range_with_len a k
take-range zero n a us h = refl
take-range (suc k) zero a us h = absurd (omega arith)
take-range (suc k) (suc n) a us h = ap (λ xs. a ∷ xs) (take-range k n (a + 1) us (omega arith))

pub drop-range : (k n a : ℕ) (us : List ℕ) → k ≤ n → drop k (range_with_len a n ++ us) ≡ range_with_len (a + k) (n - k) ++ us
drop-range zero n a us h = grind (arith)
drop-range (suc k) zero a us h = absurd (omega arith)
drop-range (suc k) (suc n) a us h = grind (arith, drop-range k n (a + 1) us)

pub range-add : (m n a : ℕ) → range_with_len a (m + n) ≡ range_with_len a m ++ range_with_len (a + m) n
range-add zero n a = grind (arith)
range-add (suc m) n a =
    let e : suc m + n ≡ suc (m + n) = omega arith in
    rw e (grind (arith, range-add m n (a + 1)))

pub dates_of-append : (rs ss : List Refill) → dates_of (rs ++ ss) ≡ dates_of rs ++ dates_of ss
dates_of-append [] ss = refl
dates_of-append (r ∷ rs) ss = ap (λ xs. range_with_len r.begins r.amount ++ xs) (dates_of-append rs ss) ∙ sym (append_assoc (range_with_len r.begins r.amount) (dates_of rs) (dates_of ss))

last_date-range : (n a : ℕ) → 1 ≤ n → last_date (range_with_len a n) + 1 ≡ a + n
last_date-range zero a p = absurd (omega arith)
last_date-range (suc zero) a p = refl
last_date-range (suc (suc n)) a p = last_date-range (suc n) (a + 1) (omega arith) ∙ omega arith

last_date-append : (xs : List ℕ) (y : ℕ) (ys : List ℕ) → last_date (xs ++ y ∷ ys) ≡ last_date (y ∷ ys)
last_date-append [] y ys = refl
last_date-append (x ∷ []) y ys = refl
last_date-append (x ∷ z ∷ xs) y ys = last_date-append (z ∷ xs) y ys

last_date-behind : (n b : ℕ) (xs us : List ℕ) → 1 ≤ n → last_date (xs ++ (range_with_len b n ++ us)) ≡ last_date (range_with_len b n ++ us)
last_date-behind zero b xs us p = absurd (omega arith)
last_date-behind (suc n) b xs us p = last_date-append xs b (range_with_len (b + 1) n ++ us)

-- the last date of refills
last_date-dates_of : (r : Refill) (rs : List Refill) → AreApart (r ∷ rs) → last_date (dates_of (r ∷ rs)) + 1 ≡ last_end (r ∷ rs)
last_date-dates_of r [] h = rw append-nil (last_date-range r.amount r.begins h.0)
last_date-dates_of r (s ∷ rs) h =
    ap (λ n. n + 1) (last_date-behind s.amount s.begins (range_with_len r.begins r.amount) (dates_of rs) h.2.0) ∙ last_date-dates_of s rs h.2

dates_of-grown : (k : ℕ) (rs : List Refill) → 1 ≤ length rs → dates_of (grown k rs) ≡ dates_of rs ++ range_with_len (last_end rs) k
dates_of-grown k [] p = absurd (omega arith)
dates_of-grown k (r ∷ []) p = rw (append-nil, append-nil) (range-add r.amount k r.begins)
dates_of-grown k (r ∷ s ∷ rs) p =
    ap (λ xs. range_with_len r.begins r.amount ++ xs) (dates_of-grown k (s ∷ rs) (omega arith))
    ∙ sym (append_assoc (range_with_len r.begins r.amount) (dates_of (s ∷ rs)) (range_with_len (last_end (s ∷ rs)) k))

-- the last refill moved so that it ends at the moment
ends-moved : (b : ℕ) (r : Refill) (rs : List Refill) → last_end (r ∷ rs) ≤ b → (1 ≤ length (last_moved b (r ∷ rs))) × (last_end (last_moved b (r ∷ rs)) ≡ b)
ends-moved b r [] h = (omega arith, omega arith)
ends-moved b r (s ∷ []) h = (omega arith, omega arith)
ends-moved b r (s ∷ z ∷ rs) h = (omega arith, (ends-moved b s (z ∷ rs) h).1)

pub first_date-run : (n b : ℕ) (us : List ℕ) → 1 ≤ n → first_date (range_with_len b n ++ us) ≡ b
first_date-run zero b us h = absurd (omega arith)
first_date-run (suc n) b us h = refl

-- what is given back are the dates that return
pub dates_of-given_back : (n k b : ℕ) (ts : List Refill) → AreApart ts → 1 ≤ k → last_end ts ≤ b → dates_of (given_back n (record { begins = b; amount = k }) ts) ≡ rejoined n (dates_of ts) (range_with_len b k)
dates_of-given_back n k b [] h p le = grind (arith, append-nil (range_with_len b k))
dates_of-given_back n k b (r ∷ rs) h p le =
    rw (rw append-nil at (first_date-run k b [] p), last_date-dates_of r rs h, refills_of-dates_of (r ∷ rs) h) (grind (
      arith,
      nat_tests,
      dates_of-grown k (r ∷ rs) (omega arith),
      dates_of-append (r ∷ rs) (record { begins = b; amount = k } ∷ []),
      append-nil (range_with_len b k),
      ends-moved b r rs le,
      dates_of-grown k (last_moved b (r ∷ rs)),
    ))

pub dates_of-left_after : (k : ℕ) (r : Refill) (rs : List Refill) → k ≤ r.amount → dates_of (left_after k r rs) ≡ range_with_len (r.begins + k) (r.amount - k) ++ dates_of rs
dates_of-left_after k r rs h = grind (arith, nat_tests)
