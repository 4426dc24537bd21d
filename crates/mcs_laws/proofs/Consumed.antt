-- The dates that charges take ascend, and none comes sooner than the date that the server had in its place.
use Rattle.std.proofs.Common.{◌≡◌, ℕ, zero, suc, ◌+◌, ◌<◌, ◌≤◌, List, [], ◌∷◌, ◌++◌, length, map, take, drop, arith}
use Rattle.std.specs.Prelude.{slice_index}
use Rattle.mcs_refills.specs.Server.{charged, with_enough, unblocked, first_date}
use Rattle.mcs_refills.specs.laws.Spacing.{IsUnder, IsWithin, AreKept, after_use, Step, consumed, AreProper}
use Rattle.mcs_refills.specs.laws.Spacing.Step.{Charge, Unblock}
use Rattle.mcs_refills.proofs.Spaces.{kept-charged, kept-unblocked}

-- dates that ascend from `low` on
abbrev pub IsAscending : ℕ → List ℕ → Type 0
IsAscending low [] = Unit {0}
IsAscending low (date ∷ dates) = (low ≤ date) × IsAscending (date + 1) dates

-- the first date, if there is one, is no sooner
abbrev pub IsFrom : ℕ → List ℕ → Type 0
IsFrom low [] = Unit {0}
IsFrom low (date ∷ dates) = low ≤ date

from-lower : (low less : ℕ) (dates : List ℕ) → less ≤ low → IsAscending low dates → IsAscending less dates
from-lower low less [] l h = tt
from-lower low less (date ∷ dates) l h = (omega (arith, l, h.0), h.1)

then-ascending : (low mid : ℕ) (us vs : List ℕ) → low ≤ mid → IsWithin low mid us → IsAscending mid vs → IsAscending low (us ++ vs)
then-ascending low mid [] vs l p q = from-lower mid low vs l q
then-ascending low mid (u ∷ us) vs l p q = (p.0, then-ascending (u + 1) mid us vs (omega (arith, p.1)) p.2 q)

based : (mid low high more : ℕ) (dates : List ℕ) → high ≤ more → IsFrom mid dates → IsWithin low high dates → IsWithin mid more dates
based mid low high more [] m f h = tt
based mid low high more (date ∷ dates) m f h = (f, omega (arith, h.1, m), based (date + 1) (date + 1) high more dates m (next dates h.2) h.2)
  where
    next : (dates : List ℕ) → IsWithin (date + 1) high dates → IsFrom (date + 1) dates
    next [] h = tt
    next (other ∷ others) h = h.0

-- what is used lies before what is left
record IsSplit (low high k : ℕ) (us : List ℕ) : Type 0 where
  mid : ℕ
  from : low ≤ mid
  to : mid ≤ high
  used : IsWithin low mid (take k us)
  left : IsWithin mid high (drop k us)

split : (k low high : ℕ) (us : List ℕ) → low ≤ high → IsWithin low high us → IsSplit low high k us
split zero low high us l h = record { mid = low; from = omega arith; to = l; used = tt; left = h }
split (suc k) low high [] l h = record { mid = low; from = omega arith; to = l; used = tt; left = tt }
split (suc k) low high (u ∷ us) l h =
    let s = split k (u + 1) high us (omega (arith, h.1)) h.2 in
    record { mid = s.mid; from = omega (arith, h.0, s.from); to = s.to; used = (h.0, omega (arith, s.from), s.used); left = s.left }

-- after a charge the first date is not one of those that were used
first-after : (period low mid : ℕ) (us ws vs : List ℕ) → mid ≤ low + period → IsWithin mid (low + period) us → IsWithin low mid ws → IsUnder (us ++ map (λ date. date + period) ws) vs → IsFrom mid vs
first-after period low mid us ws [] l p q r = tt
first-after period low mid [] [] (v ∷ vs) l p q r = absurd r
first-after period low mid [] (w ∷ ws) (v ∷ vs) l p q r = omega (arith, l, q.0, r.0)
first-after period low mid (u ∷ us) ws (v ∷ vs) l p q r = omega (arith, p.0, r.0)

pub ascends : (budget period max_refills : ℕ) (steps : List Step) (low : ℕ) (us : List ℕ) → 1 ≤ budget → AreKept budget period us → IsFrom low us → AreProper steps →
    IsAscending low (consumed period max_refills steps us)
ascends budget period max_refills [] low us some h f p = tt
ascends budget period max_refills (step ∷ steps) low [] some h f p = absurd (omega (arith, some, h.all))
ascends budget period max_refills (Unblock t ∷ steps) low (u ∷ us) some h f p =
    ascends budget period max_refills steps low (unblocked t (u ∷ us)) some (kept-unblocked budget period t (u ∷ us) h) (omega (arith, f)) p.1
ascends budget period max_refills (Charge k min_budget ∷ steps) low (u ∷ us) some h f p =
    by (with_enough min_budget (charged k period max_refills (u ∷ us))) kept.0 (λ from. ascends budget period max_refills steps s.mid (with_enough min_budget (charged k period max_refills (u ∷ us))) some kept.1 from p.1)
  where
    kept : IsUnder (after_use k period (u ∷ us)) (with_enough min_budget (charged k period max_refills (u ∷ us))) × AreKept budget period (with_enough min_budget (charged k period max_refills (u ∷ us)))
    kept = kept-charged budget period max_refills k min_budget (u ∷ us) p.0 h

    s : IsSplit u (u + period) k (u ∷ us)
    s = split k u (u + period) (u ∷ us) (omega arith) (based u h.low (h.low + period) (u + period) (u ∷ us) (omega (arith, h.within.0)) (omega arith) h.within)

    by : (vs : List ℕ) → IsUnder (after_use k period (u ∷ us)) vs → (IsFrom s.mid vs → IsAscending s.mid (consumed period max_refills steps vs)) →
        IsAscending low (take k (u ∷ us) ++ consumed period max_refills steps vs)
    by vs under rest =
        from-lower u low (take k (u ∷ us) ++ consumed period max_refills steps vs) f
        (then-ascending u s.mid (take k (u ∷ us)) (consumed period max_refills steps vs) s.from s.used
        (rest (first-after period u s.mid (drop k (u ∷ us)) (take k (u ∷ us)) vs s.to s.left s.used under)))

-- a charge leaves no date before the first one
pub charged-first : (budget period max_refills k min_budget u : ℕ) (us : List ℕ) → AreKept budget period (u ∷ us) → 1 ≤ k →
    u ≤ first_date (with_enough min_budget (charged k period max_refills (u ∷ us)))
charged-first budget period max_refills k min_budget u us h some =
    by (with_enough min_budget (charged k period max_refills (u ∷ us))) kept.1.all
    (first-after period u s.mid (drop k (u ∷ us)) (take k (u ∷ us)) (with_enough min_budget (charged k period max_refills (u ∷ us))) s.to s.left s.used kept.0)
  where
    kept : IsUnder (after_use k period (u ∷ us)) (with_enough min_budget (charged k period max_refills (u ∷ us))) × AreKept budget period (with_enough min_budget (charged k period max_refills (u ∷ us)))
    kept = kept-charged budget period max_refills k min_budget (u ∷ us) some h

    s : IsSplit u (u + period) k (u ∷ us)
    s = split k u (u + period) (u ∷ us) (omega arith) (based u h.low (h.low + period) (u + period) (u ∷ us) (omega (arith, h.within.0)) (omega arith) h.within)

    by : (vs : List ℕ) → length vs ≡ budget → IsFrom s.mid vs → u ≤ first_date vs
    by [] e f = absurd (omega (arith, e, h.all))
    by (v ∷ vs) e f = omega (arith, s.from, f)

-- each date of ascending ones is from `low` on
pub ascending-from : (low : ℕ) (dates : List ℕ) → IsAscending low dates → (i : ℕ) → i < length dates → low ≤ slice_index dates i
ascending-from low [] h i l = absurd (omega (arith, l))
ascending-from low (date ∷ dates) h zero l = h.0
ascending-from low (date ∷ dates) h (suc i) l = omega (arith, h.0, ascending-from (date + 1) dates h.1 i (omega (arith, l)))

pub ascending-at : (low : ℕ) (dates : List ℕ) (i j : ℕ) → IsAscending low dates → i ≤ j → j < length dates → slice_index dates i ≤ slice_index dates j
ascending-at low [] i j h l m = absurd (omega (arith, m))
ascending-at low (date ∷ dates) zero zero h l m = omega arith
ascending-at low (date ∷ []) zero (suc j) h l m = absurd (omega (arith, m))
ascending-at low (date ∷ next ∷ dates) zero (suc j) h l m =
    omega (arith, h.1.0, ascending-at (date + 1) (next ∷ dates) zero j h.1 (omega arith) (omega (arith, m)))
ascending-at low (date ∷ dates) (suc i) zero h l m = absurd (omega (arith, l))
ascending-at low (date ∷ dates) (suc i) (suc j) h l m = ascending-at (date + 1) dates i j h.1 (omega (arith, l)) (omega (arith, m))

-- each date of one list is at most the one in its place of the other, as far as both go
abbrev pub IsBefore : List ℕ → List ℕ → Type 0
IsBefore [] ws = Unit {0}
IsBefore (u ∷ us) [] = Unit {0}
IsBefore (u ∷ us) (w ∷ ws) = (u ≤ w) × IsBefore us ws

under-before : (us xs vs ws : List ℕ) → IsUnder (us ++ xs) vs → IsBefore vs ws → IsBefore us ws
under-before [] xs vs ws p q = tt
under-before (u ∷ us) xs [] ws p q = absurd p
under-before (u ∷ us) xs (v ∷ vs) [] p q = tt
under-before (u ∷ us) xs (v ∷ vs) (w ∷ ws) p q = (omega (arith, p.0, q.0), under-before us xs vs ws p.1 q.1)

used-before : (k : ℕ) (us ws : List ℕ) → IsBefore (drop k us) ws → IsBefore us (take k us ++ ws)
used-before zero us ws h = h
used-before (suc k) [] ws h = tt
used-before (suc k) (u ∷ us) ws h = (omega arith, used-before k us ws h)

unblocked-before : (t : ℕ) (us ws : List ℕ) → IsBefore (unblocked t us) ws → IsBefore us ws
unblocked-before t [] ws h = tt
unblocked-before t (u ∷ us) [] h = tt
unblocked-before t (u ∷ us) (w ∷ ws) h = (omega (arith, h.0), unblocked-before (t + 1) us ws h.1)

pub no_sooner : (budget period max_refills : ℕ) (steps : List Step) (us : List ℕ) → AreKept budget period us → AreProper steps → IsBefore us (consumed period max_refills steps us)
no_sooner budget period max_refills [] [] h p = tt
no_sooner budget period max_refills [] (u ∷ us) h p = tt
no_sooner budget period max_refills (Unblock t ∷ steps) us h p =
    unblocked-before t us (consumed period max_refills steps (unblocked t us)) (no_sooner budget period max_refills steps (unblocked t us) (kept-unblocked budget period t us h) p.1)
no_sooner budget period max_refills (Charge k min_budget ∷ steps) us h p =
    by (with_enough min_budget (charged k period max_refills us)) kept.0 (no_sooner budget period max_refills steps (with_enough min_budget (charged k period max_refills us)) kept.1 p.1)
  where
    kept : IsUnder (after_use k period us) (with_enough min_budget (charged k period max_refills us)) × AreKept budget period (with_enough min_budget (charged k period max_refills us))
    kept = kept-charged budget period max_refills k min_budget us p.0 h

    by : (vs : List ℕ) → IsUnder (after_use k period us) vs → IsBefore vs (consumed period max_refills steps vs) → IsBefore us (take k us ++ consumed period max_refills steps vs)
    by vs under i =
        used-before k us (consumed period max_refills steps vs)
        (under-before (drop k us) (map (λ date. date + period) (take k us)) vs (consumed period max_refills steps vs) under i)

pub before-at : (us ws : List ℕ) (i : ℕ) → IsBefore us ws → i < length us → i < length ws → slice_index us i ≤ slice_index ws i
before-at [] ws i h l m = absurd (omega (arith, l))
before-at (u ∷ us) [] i h l m = absurd (omega (arith, m))
before-at (u ∷ us) (w ∷ ws) zero h l m = h.0
before-at (u ∷ us) (w ∷ ws) (suc i) h l m = before-at us ws i h.1 (omega (arith, l)) (omega (arith, m))
