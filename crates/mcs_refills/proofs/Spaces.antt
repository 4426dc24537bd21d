-- The spacing step, and the spacing of the dates that charges take.
use Rattle.std.proofs.Common.{◌≡◌, ℕ, zero, suc, ◌+◌, ◌-◌, ◌<◌, ◌≤◌, ◌||◌, List, [], ◌∷◌, ◌++◌, length, min, max, map, take, drop, refl, sym, ap, ◌∙◌, append_assoc, append-nil, length-append, arith}
use Rattle.std.specs.Prelude.{nat_lt, slice_index}
use Rattle.std.specs.List.{range_with_len}
use Rattle.std.proofs.lemmas.Bool.{cond_both}
use Rattle.std.proofs.lemmas.Bool.Decides.{nat_tests}
use Rattle.std.proofs.lemmas.Grind.{common_steps}
use Rattle.std.proofs.lemmas.List.{map-append}
use Rattle.std.proofs.lemmas.List.FromFn.{length-range_with_len}
use Rattle.mcs_refills.specs.declared.refill.Refill.{Refill}
use Rattle.mcs_refills.specs.Server.{dates_from, reconfigured, head_amount, dates_of, with_date, refills_of, first_date, last_moved, rejoined, charged, touches, unblocked, with_enough, enough, gathered, joined}
use Rattle.mcs_refills.specs.laws.Spacing.{IsUnder, IsWithin, AreKept, after_use, Step, stepped, consumed, IsProper, AreProper, StepsSpace, ConsumedAreSpaced}
use Rattle.mcs_refills.specs.laws.Spacing.Step.{Charge, Unblock}
use Rattle.mcs_refills.proofs.Dates.{range-suc, range-add}

-- places
under-same : (us : List ℕ) → IsUnder us us
under-same [] = tt
under-same (u ∷ us) = (omega arith, under-same us)

under-trans : (us vs ws : List ℕ) → IsUnder us vs → IsUnder vs ws → IsUnder us ws
under-trans [] [] ws p q = q
under-trans [] (v ∷ vs) ws p q = absurd p
under-trans (u ∷ us) [] ws p q = absurd p
under-trans (u ∷ us) (v ∷ vs) [] p q = q
under-trans (u ∷ us) (v ∷ vs) (w ∷ ws) p q = (omega (arith, p.0, q.0), under-trans us vs ws p.1 q.1)

under-append : (us vs xs ys : List ℕ) → IsUnder us vs → IsUnder xs ys → IsUnder (us ++ xs) (vs ++ ys)
under-append [] [] xs ys p q = q
under-append [] (v ∷ vs) xs ys p q = absurd p
under-append (u ∷ us) [] xs ys p q = absurd p
under-append (u ∷ us) (v ∷ vs) xs ys p q = (p.0, under-append us vs xs ys p.1 q)

under-length : (us vs : List ℕ) → IsUnder us vs → length us ≡ length vs
under-length [] [] p = refl
under-length [] (v ∷ vs) p = absurd p
under-length (u ∷ us) [] p = absurd p
under-length (u ∷ us) (v ∷ vs) p = ap suc (under-length us vs p.1)

under-range : (n a b : ℕ) → a ≤ b → IsUnder (range_with_len a n) (range_with_len b n)
under-range zero a b l = tt
under-range (suc n) a b l = (l, under-range n (a + 1) (b + 1) (omega arith))

-- dates within bounds
within-low : (low less high : ℕ) (us : List ℕ) → less ≤ low → IsWithin low high us → IsWithin less high us
within-low low less high [] l h = tt
within-low low less high (u ∷ us) l h = (omega (arith, h.0), h.1, h.2)

within-high : (low high more : ℕ) (us : List ℕ) → high ≤ more → IsWithin low high us → IsWithin low more us
within-high low high more [] l h = tt
within-high low high more (u ∷ us) l h = (h.0, omega (arith, h.1), within-high (u + 1) high more us l h.2)

within-append : (low mid high : ℕ) (us vs : List ℕ) → low ≤ mid → mid ≤ high → IsWithin low mid us → IsWithin mid high vs → IsWithin low high (us ++ vs)
within-append low mid high [] vs l m p q = within-low mid low high vs l q
within-append low mid high (u ∷ us) vs l m p q = (p.0, omega (arith, p.1), within-append (u + 1) mid high us vs (omega (arith, p.1)) m p.2 q)

within-map : (period low high : ℕ) (us : List ℕ) → IsWithin low high us → IsWithin (low + period) (high + period) (map (λ date. date + period) us)
within-map period low high [] h = tt
within-map period low high (u ∷ us) h =
    (omega (arith, h.0), omega (arith, h.1), within-low (u + 1 + period) (u + period + 1) (high + period) (map (λ date. date + period) us) (omega arith) (within-map period (u + 1) high us h.2))

within-range : (n a : ℕ) → IsWithin a (a + n) (range_with_len a n)
within-range zero a = tt
within-range (suc n) a = (omega arith, omega arith, within-high (a + 1) (a + 1 + n) (a + suc n) (range_with_len (a + 1) n) (omega arith) (within-range n (a + 1)))

-- what is used lies before what is left
record IsSplit (low high k : ℕ) (us : List ℕ) : Type 0 where
  mid : ℕ
  from : low ≤ mid
  to : mid ≤ high
  used : IsWithin low mid (take k us)
  left : IsWithin mid high (drop k us)

split : (k low high : ℕ) (us : List ℕ) → low ≤ high → IsWithin low high us → IsSplit low high k us
split zero low high us l h = record { mid = low; from = omega arith; to = l; used = tt; left = h }
split (suc k) low high [] l h = record { mid = low; from = omega arith; to = l; used = tt; left = tt }
split (suc k) low high (u ∷ us) l h =
    let s = split k (u + 1) high us (omega (arith, h.1)) h.2 in
    record { mid = s.mid; from = omega (arith, h.0, s.from); to = s.to; used = (h.0, omega (arith, s.from), s.used); left = s.left }

-- refills one after another within bounds
abbrev pub IsLaid : ℕ → ℕ → List Refill → Type 0
IsLaid low high [] = low ≤ high
IsLaid low high (r ∷ rs) = (low ≤ r.begins) × IsLaid (r.begins + r.amount) high rs

laid-to : (low high : ℕ) (rs : List Refill) → IsLaid low high rs → low ≤ high
laid-to low high [] h = h
laid-to low high (r ∷ rs) h = let l = laid-to (r.begins + r.amount) high rs h.1 in omega (arith, h.0)

laid-with_date : (low high date : ℕ) (rs : List Refill) → low ≤ date → IsLaid (date + 1) high rs → IsLaid low high (with_date date rs)
laid-with_date low high date [] l h = (l, h)
laid-with_date low high date (r ∷ rs) l h = grind (arith, nat_tests)

pub laid-refills_of : (low high : ℕ) (us : List ℕ) → low ≤ high → IsWithin low high us → IsLaid low high (refills_of us)
laid-refills_of low high [] l h = l
laid-refills_of low high (u ∷ us) l h = laid-with_date low high u (refills_of us) h.0 (laid-refills_of (u + 1) high us (omega (arith, h.1)) h.2)

pub within-dates_of : (low high : ℕ) (rs : List Refill) → IsLaid low high rs → IsWithin low high (dates_of rs)
within-dates_of low high [] h = tt
within-dates_of low high (r ∷ rs) h =
    within-append low (r.begins + r.amount) high (range_with_len r.begins r.amount) (dates_of rs) (omega (arith, h.0)) (laid-to (r.begins + r.amount) high rs h.1)
    (within-low r.begins low (r.begins + r.amount) (range_with_len r.begins r.amount) h.0 (within-range r.amount r.begins))
    (within-dates_of (r.begins + r.amount) high rs h.1)

-- the refills of dates have these dates
dates_of-with_date : (date : ℕ) (rs : List Refill) → dates_of (with_date date rs) ≡ date ∷ dates_of rs
dates_of-with_date date [] = refl
dates_of-with_date date (r ∷ rs) = grind (arith, nat_tests, range-suc date r.amount)

pub dates_of-refills_of : (us : List ℕ) → dates_of (refills_of us) ≡ us
dates_of-refills_of [] = refl
dates_of-refills_of (u ∷ us) = dates_of-with_date u (refills_of us) ∙ ap (λ xs. u ∷ xs) (dates_of-refills_of us)

-- the last refill moved later
laid-last_moved : (low m : ℕ) (rs : List Refill) → IsLaid low m rs → IsLaid low m (last_moved m rs)
laid-last_moved low m [] h = h
laid-last_moved low m (r ∷ []) h = (omega (arith, h.0, h.1), omega (arith, h.1))
laid-last_moved low m (r ∷ s ∷ rs) h = (h.0, laid-last_moved (r.begins + r.amount) m (s ∷ rs) h.1)

under-last_moved : (low m : ℕ) (rs : List Refill) → IsLaid low m rs → IsUnder (dates_of rs) (dates_of (last_moved m rs))
under-last_moved low m [] h = tt
under-last_moved low m (r ∷ []) h =
    under-append (range_with_len r.begins r.amount) (range_with_len (m - r.amount) r.amount) [] [] (under-range r.amount r.begins (m - r.amount) (omega (arith, h.1))) tt
under-last_moved low m (r ∷ s ∷ rs) h =
    under-append (range_with_len r.begins r.amount) (range_with_len r.begins r.amount) (dates_of (s ∷ rs)) (dates_of (last_moved m (s ∷ rs)))
    (under-same (range_with_len r.begins r.amount)) (under-last_moved (r.begins + r.amount) m (s ∷ rs) h.1)

-- enough at the head
laid-joined : (low high : ℕ) (r s : Refill) (rs : List Refill) → IsLaid low high (r ∷ s ∷ rs) → IsLaid low high (joined r s ∷ rs)
laid-joined low high r s rs h = grind (arith)

under-joined : (low high : ℕ) (r s : Refill) (rs : List Refill) → IsLaid low high (r ∷ s ∷ rs) → IsUnder (dates_of (r ∷ s ∷ rs)) (dates_of (joined r s ∷ rs))
under-joined low high r s rs h =
    let e : s.begins - r.amount + r.amount ≡ s.begins = omega (arith, h.1.0) in
    rw (range-add r.amount s.amount (s.begins - r.amount), e, append_assoc (range_with_len (s.begins - r.amount) r.amount) (range_with_len s.begins s.amount) (dates_of rs))
    (under-append (range_with_len r.begins r.amount) (range_with_len (s.begins - r.amount) r.amount) (dates_of (s ∷ rs)) (dates_of (s ∷ rs))
    (under-range r.amount r.begins (s.begins - r.amount) (omega (arith, h.1.0))) (under-same (dates_of (s ∷ rs))))

laid-gathered : (min_budget low high : ℕ) (r : Refill) (rs : List Refill) → IsLaid low high (r ∷ rs) → IsLaid low high (gathered min_budget r rs)
laid-gathered min_budget low high r [] h = h
laid-gathered min_budget low high r (s ∷ rs) h = grind (arith, laid-gathered min_budget low high (joined r s) rs, laid-joined low high r s rs h)

under-gathered : (min_budget low high : ℕ) (r : Refill) (rs : List Refill) → IsLaid low high (r ∷ rs) → IsUnder (dates_of (r ∷ rs)) (dates_of (gathered min_budget r rs))
under-gathered min_budget low high r [] h = under-same (dates_of (r ∷ []))
under-gathered min_budget low high r (s ∷ rs) h =
    cond_both (nat_lt r.amount min_budget) (gathered min_budget (joined r s) rs) (r ∷ s ∷ rs) (λ xs. IsUnder (dates_of (r ∷ s ∷ rs)) (dates_of xs)) (λ e.
    under-trans (dates_of (r ∷ s ∷ rs)) (dates_of (joined r s ∷ rs)) (dates_of (gathered min_budget (joined r s) rs)) (under-joined low high r s rs h)
    (under-gathered min_budget low high (joined r s) rs (laid-joined low high r s rs h))
    ) (λ e. under-same (dates_of (r ∷ s ∷ rs)))

-- the lists of two kinds of step: later in each place, and within these bounds
record IsLater (us vs : List ℕ) (low high : ℕ) : Type 0 where
  under : IsUnder us vs
  within : IsWithin low high vs

later-enough : (min_budget low high : ℕ) (rs : List Refill) → IsLaid low high rs → IsLater (dates_of rs) (dates_of (enough min_budget rs)) low high
later-enough min_budget low high [] h = record { under = tt; within = tt }
later-enough min_budget low high (r ∷ rs) h =
    record { under = under-gathered min_budget low high r rs h; within = within-dates_of low high (gathered min_budget r rs) (laid-gathered min_budget low high r rs h) }

later-with_enough : (min_budget low high : ℕ) (us : List ℕ) → low ≤ high → IsWithin low high us → IsLater us (with_enough min_budget us) low high
later-with_enough min_budget low high us l h =
    let k = later-enough min_budget low high (refills_of us) (laid-refills_of low high us l h) in
    let i : IsUnder us (with_enough min_budget us) = rw (dates_of-refills_of us) at k.under in
    record { under = i; within = k.within }

-- dates and those that return
later-rejoined : (max_refills low mid high : ℕ) (us vs : List ℕ) → low ≤ mid → mid ≤ high → 1 ≤ length vs → IsWithin low mid us → IsWithin mid high vs → IsLater (us ++ vs) (rejoined max_refills us vs) low high
later-rejoined max_refills low mid high us [] l m some p q = absurd (omega arith)
later-rejoined max_refills low mid high us (v ∷ vs) l m some p q =
    let laid = laid-refills_of low v us (omega (arith, q.0)) (within-high low mid v us q.0 p) in
    let first : IsUnder us (dates_of (last_moved v (refills_of us))) = rw (dates_of-refills_of us) at (under-last_moved low v (refills_of us) laid) in
    cond_both (touches us (v ∷ vs) || nat_lt (length (refills_of us)) max_refills) (us ++ v ∷ vs) (dates_of (last_moved v (refills_of us)) ++ v ∷ vs) (λ xs. IsLater (us ++ v ∷ vs) xs low high)
    (λ e. record { under = under-same (us ++ v ∷ vs); within = within-append low mid high us (v ∷ vs) l m p q })
    (λ e. record {
      under = under-append us (dates_of (last_moved v (refills_of us))) (v ∷ vs) (v ∷ vs) first (under-same (v ∷ vs));
      within = within-append low v high (dates_of (last_moved v (refills_of us))) (v ∷ vs) (omega (arith, q.0)) (omega (arith, q.1))
          (within-dates_of low v (last_moved v (refills_of us)) (laid-last_moved low v (refills_of us) laid)) (omega arith, q.1, q.2);
    })

later-charged : (k min_budget max_refills low period : ℕ) (us : List ℕ) → 1 ≤ k → (s : IsSplit low (low + period) k us) →
    IsLater (after_use k period us) (with_enough min_budget (charged k period max_refills us)) s.mid (s.mid + period)
later-charged zero min_budget max_refills low period us p s = absurd (omega arith)
later-charged (suc k) min_budget max_refills low period [] p s =
    cond_both (touches [] [] || nat_lt 0 max_refills) [] [] (λ xs. IsLater [] (with_enough min_budget xs) s.mid (s.mid + period)) (λ e. record { under = tt; within = tt }) (λ e. record { under = tt; within = tt })
later-charged (suc k) min_budget max_refills low period (u ∷ us) p s =
    let i = later-rejoined max_refills s.mid (low + period) (s.mid + period) (drop k us) (map (λ date. date + period) (u ∷ take k us)) s.to (omega (arith, s.from)) (omega arith) s.left
    (within-map period low s.mid (u ∷ take k us) s.used) in
    let j = later-with_enough min_budget s.mid (s.mid + period) (charged (suc k) period max_refills (u ∷ us)) (omega arith) i.within in
    record { under = under-trans (after_use (suc k) period (u ∷ us)) (charged (suc k) period max_refills (u ∷ us)) (with_enough min_budget (charged (suc k) period max_refills (u ∷ us))) i.under j.under; within = j.within }

length-after_use : (k period : ℕ) (us : List ℕ) → length (after_use k period us) ≡ length us
length-after_use k period us = grind (arith, common_steps)

-- unblocking
under-unblocked : (t : ℕ) (us : List ℕ) → IsUnder us (unblocked t us)
under-unblocked t [] = tt
under-unblocked t (u ∷ us) = (omega arith, under-unblocked (t + 1) us)

within-unblocked : (t low high bound : ℕ) (us : List ℕ) → IsWithin low high us → high + t ≤ bound + low → high ≤ bound → IsWithin (max low t) bound (unblocked t us)
within-unblocked t low high bound [] h p q = tt
within-unblocked t low high bound (u ∷ us) h p q = (
  omega (arith, h.0),
  omega (arith, h.0, h.1),
  within-low (max (u + 1) (t + 1)) (max u t + 1) bound (unblocked (t + 1) us) (omega arith) (within-unblocked (t + 1) (u + 1) high bound us h.2 (omega (arith, h.0)) q),
)

-- a step moves no date to before its place after use, and keeps what is kept
pub kept-charged : (budget period max_refills k min_budget : ℕ) (us : List ℕ) → 1 ≤ k → (h : AreKept budget period us) →
    IsUnder (after_use k period us) (with_enough min_budget (charged k period max_refills us)) × AreKept budget period (with_enough min_budget (charged k period max_refills us))
kept-charged budget period max_refills k min_budget us p h =
    let s = split k h.low (h.low + period) us (omega arith) h.within in
    let i = later-charged k min_budget max_refills h.low period us p s in
    (i.under, record { all = sym (under-length (after_use k period us) (with_enough min_budget (charged k period max_refills us)) i.under) ∙ length-after_use k period us ∙ h.all; low = s.mid; within = i.within })

pub kept-unblocked : (budget period t : ℕ) (us : List ℕ) → (h : AreKept budget period us) → AreKept budget period (unblocked t us)
kept-unblocked budget period t us h =
    record {
      all = sym (under-length us (unblocked t us) (under-unblocked t us)) ∙ h.all;
      low = max h.low t;
      within = within-unblocked t h.low (h.low + period) (max h.low t + period) us h.within (omega arith) (omega arith);
    }

pub kept-step : (budget period max_refills : ℕ) (step : Step) (us : List ℕ) → IsProper step → AreKept budget period us → AreKept budget period (stepped period max_refills step us)
kept-step budget period max_refills (Charge k min_budget) us p h = (kept-charged budget period max_refills k min_budget us p h).1
kept-step budget period max_refills (Unblock t) us p h = kept-unblocked budget period t us h

pub steps-space : StepsSpace
steps-space budget period max_refills k min_budget t us h p = (under-unblocked t us, (kept-charged budget period max_refills k min_budget us p h).0)

-- what is taken: as long as it lasts, it is reached by these
abbrev IsReached : List ℕ → List ℕ → Type 0
IsReached us [] = Unit {0}
IsReached [] (v ∷ vs) = ⊥
IsReached (u ∷ us) (v ∷ vs) = (u ≤ v) × IsReached us vs

under-reached : (us vs ws : List ℕ) → IsUnder us vs → IsReached vs ws → IsReached us ws
under-reached us vs [] p q = tt
under-reached [] [] (w ∷ ws) p q = absurd q
under-reached [] (v ∷ vs) (w ∷ ws) p q = absurd p
under-reached (u ∷ us) [] (w ∷ ws) p q = absurd p
under-reached (u ∷ us) (v ∷ vs) (w ∷ ws) p q = (omega (arith, p.0, q.0), under-reached us vs ws p.1 q.1)

reached-used : (k : ℕ) (us xs vs : List ℕ) → IsReached (drop k us ++ xs) vs → IsReached (us ++ xs) (take k us ++ vs)
reached-used zero us xs vs h = h
reached-used (suc k) [] xs vs h = h
reached-used (suc k) (u ∷ us) xs vs h = (omega arith, reached-used k us xs vs h)

reached : (budget period max_refills : ℕ) (steps : List Step) (us : List ℕ) → AreKept budget period us → AreProper steps →
    IsReached (us ++ map (λ date. date + period) (consumed period max_refills steps us)) (consumed period max_refills steps us)
reached budget period max_refills [] us h p = tt
reached budget period max_refills (Unblock t ∷ steps) us h p =
    let later = map (λ date. date + period) (consumed period max_refills steps (unblocked t us)) in
    under-reached (us ++ later) (unblocked t us ++ later) (consumed period max_refills steps (unblocked t us))
    (under-append us (unblocked t us) later later (under-unblocked t us) (under-same later))
    (reached budget period max_refills steps (unblocked t us) (kept-unblocked budget period t us h) p.1)
reached budget period max_refills (Charge k min_budget ∷ steps) us h p =
    by (with_enough min_budget (charged k period max_refills us)) (kept-charged budget period max_refills k min_budget us p.0 h).0
    (reached budget period max_refills steps (with_enough min_budget (charged k period max_refills us)) (kept-charged budget period max_refills k min_budget us p.0 h).1 p.1)
  where
    by : (vs : List ℕ) → IsUnder (after_use k period us) vs →
        IsReached (vs ++ map (λ date. date + period) (consumed period max_refills steps vs)) (consumed period max_refills steps vs) →
        IsReached (us ++ map (λ date. date + period) (take k us ++ consumed period max_refills steps vs)) (take k us ++ consumed period max_refills steps vs)
    by vs l i =
        let f : ℕ → ℕ = λ date. date + period in
        let later = map f (consumed period max_refills steps vs) in
        let j : IsReached (after_use k period us ++ later) (consumed period max_refills steps vs) =
        under-reached (after_use k period us ++ later) (vs ++ later) (consumed period max_refills steps vs)
        (under-append (after_use k period us) vs later later l (under-same later)) i in
        rw (map-append f (take k us) (consumed period max_refills steps vs))
        (reached-used k us (map f (take k us) ++ later) (consumed period max_refills steps vs)
        (rw (append_assoc (drop k us) (map f (take k us)) later) at j))

reached-map : (period : ℕ) (ds vs : List ℕ) (j : ℕ) → IsReached (map (λ date. date + period) ds) vs → j < length vs → j < length ds → slice_index ds j + period ≤ slice_index vs j
reached-map period [] vs j h p q = absurd (omega arith)
reached-map period (d ∷ ds) [] j h p q = absurd (omega arith)
reached-map period (d ∷ ds) (v ∷ vs) zero h p q = h.0
reached-map period (d ∷ ds) (v ∷ vs) (suc j) h p q = reached-map period ds vs j h.1 (omega arith) (omega arith)

reached-at : (period : ℕ) (us ds vs : List ℕ) (i j : ℕ) → IsReached (us ++ map (λ date. date + period) ds) vs → i ≡ j + length us → i < length vs → j < length ds →
    slice_index ds j + period ≤ slice_index vs i
reached-at period [] ds vs i j h e p q =
    let f : i ≡ j = omega arith in
    rw f (reached-map period ds vs j h (omega arith) q)
reached-at period (u ∷ us) ds [] i j h e p q = absurd (omega arith)
reached-at period (u ∷ us) ds (v ∷ vs) zero j h e p q = absurd (omega arith)
reached-at period (u ∷ us) ds (v ∷ vs) (suc i) j h e p q = reached-at period us ds vs i j h.1 (omega arith) (omega arith) q

pub consumed-spaced : ConsumedAreSpaced
consumed-spaced budget period max_refills steps us h p j l =
    reached-at period us (consumed period max_refills steps us) (consumed period max_refills steps us) (j + budget) j (reached budget period max_refills steps us h p) (ap (λ n. j + n) (sym h.all)) l (omega arith)

-- an order
two_parts : (budget period begins amount : ℕ) → budget ≤ period → amount ≤ budget →
    AreKept budget period (range_with_len begins amount ++ range_with_len (begins + period - (budget - amount)) (budget - amount))
two_parts budget period begins amount l m =
    let mid = begins + period - (budget - amount) in
    let e : mid + (budget - amount) ≡ begins + period = omega arith in
    record {
      all = length-append (range_with_len begins amount) (range_with_len mid (budget - amount)) ∙ rw (length-range_with_len begins amount, length-range_with_len mid (budget - amount)) (omega arith);
      low = begins;
      within = within-append begins (begins + amount) (begins + period) (range_with_len begins amount) (range_with_len mid (budget - amount)) (omega arith) (omega arith)
          (within-range amount begins)
          (within-low mid (begins + amount) (begins + period) (range_with_len mid (budget - amount)) (omega arith)
          (within-high mid (mid + (budget - amount)) (begins + period) (range_with_len mid (budget - amount)) (omega arith) (within-range (budget - amount) mid)));
    }

pub kept-reconfigured : (budget period t : ℕ) (us : List ℕ) → budget ≤ period → AreKept budget period (reconfigured t budget period us)
kept-reconfigured budget period t us l = two_parts budget period (max (first_date us) t) (min (head_amount us) budget) l (omega arith)

-- one more date adds at most one refill; if it touches the first, it adds no refill
length-with_date : (d : ℕ) (rs : List Refill) → length (with_date d rs) ≤ 1 + length rs
length-with_date d [] = omega arith
length-with_date d (r ∷ rs) = grind (arith)

length-with_two : (d : ℕ) (rs : List Refill) → length (with_date d (with_date (d + 1) rs)) ≡ length (with_date (d + 1) rs)
length-with_two d [] = grind (arith, nat_tests)
length-with_two d (r ∷ rs) = grind (arith, nat_tests)

few-range : (n a : ℕ) (us : List ℕ) → length (refills_of (range_with_len a n ++ us)) ≤ 1 + length (refills_of us)
few-range zero a us = omega arith
few-range (suc zero) a us = length-with_date a (refills_of us)
few-range (suc (suc n)) a us =
    let e = length-with_two a (refills_of (range_with_len (a + 1 + 1) n ++ us)) in
    let h = few-range (suc n) (a + 1) us in
    omega arith

few-run : (n a : ℕ) → length (refills_of (range_with_len a n)) ≤ 1
few-run n a = rw append-nil at (few-range n a [])

pub few-reconfigured : (budget period t : ℕ) (us : List ℕ) → length (refills_of (reconfigured t budget period us)) ≤ 2
few-reconfigured budget period t us = two (min (head_amount us) budget) (max (first_date us) t) (budget - min (head_amount us) budget) (max (first_date us) t + period - (budget - min (head_amount us) budget))
  where
    two : (m a n b : ℕ) → length (refills_of (range_with_len a m ++ range_with_len b n)) ≤ 2
    two m a n b = omega (arith, few-range m a (range_with_len b n), few-run n b)

pub kept-new : (budget period at : ℕ) → budget ≤ period → AreKept budget period (dates_from at budget)
kept-new budget period at l = record { all = length-range_with_len at budget; low = at; within = within-high at (at + budget) (at + period) (range_with_len at budget) (omega arith) (within-range budget at) }

pub few-new : (budget at : ℕ) → length (refills_of (dates_from at budget)) ≤ 1
few-new budget at = few-run budget at
