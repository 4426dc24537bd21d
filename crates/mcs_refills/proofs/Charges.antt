-- Properties that a charge keeps.
use Rattle.std.proofs.Common.{◌≡◌, ℕ, ◌+◌, ◌-◌, ◌^◌, ◌<◌, ◌≤◌, ◌⊎◌, inl, inr, List, [], ◌∷◌, ◌++◌, length, refl, sym, ap, ◌∙◌, arith}
use Rattle.std.specs.Prelude.{nat_lt}
use Rattle.std.proofs.lemmas.Bool.{cases_eq, cases_lt, eq-eqb, ne_eqb, lt-ltb, le-ltb, cond_both}
use Rattle.mcs_refills.specs.declared.refill.Refill.{Refill}
use Rattle.mcs_refills.specs.laws.Apart.{AreApart, last_end}
use Rattle.mcs_refills.specs.stored.Refills.{IsKept, given_back, taken, left_after, after_charge}
use Rattle.mcs_refills.specs.Server.{enough, gathered, joined, dates_of, first_moment, first_amount, with_enough, charged}
use Rattle.mcs_refills.proofs.Dates.{IsBefore-end, last_end-head, refills_of-dates_of, dates_of-given_back, dates_of-left_after, take-range, drop-range, map-range}
use Rattle.mcs_refills.proofs.Gathers.{last_end-first}

-- what a list of refills must be like to be kept, but for its span
pub record IsLike (rs : List Refill) (n from end : ℕ) : Type 0 where
  pub apart : AreApart rs
  pub some : 1 ≤ length rs
  pub few : length rs ≤ n
  pub from_is : from ≤ first_moment rs
  pub end_is : last_end rs ≡ end

IsLike-one : (r : Refill) (n from : ℕ) → 1 ≤ r.amount → 1 ≤ n → from ≤ r.begins → IsLike (r ∷ []) n from (r.begins + r.amount)
IsLike-one r n from p q l = record { apart = (p, tt, tt); some = omega arith; few = q; from_is = l; end_is = refl }

-- one refill before others, and the others
IsLike-cons : (r : Refill) (m n from first end : ℕ) (xs : List Refill) → m < n → 1 ≤ r.amount → from ≤ r.begins → r.begins + r.amount < first → IsLike xs m first end → IsLike (r ∷ xs) n from end
IsLike-cons r m n from first end [] l p q b i = absurd (omega (arith, i.some))
IsLike-cons r m n from first end (z ∷ xs) l p q b i =
    record { apart = (p, omega (arith, i.from_is), i.apart); some = omega arith; few = omega (arith, i.few); from_is = q; end_is = i.end_is }

IsLike-rest : (r s : Refill) (m n from end : ℕ) (rs : List Refill) → length (s ∷ rs) ≤ m → IsLike (r ∷ s ∷ rs) n from end → IsLike (s ∷ rs) m s.begins end
IsLike-rest r s m n from end rs l h = record { apart = h.apart.2; some = omega arith; few = l; from_is = omega arith; end_is = h.end_is }

-- the last refill replaced, for instance grown or moved
abbrev with_last : (Refill → Refill) → List Refill → List Refill
with_last f [] = []
with_last f (r ∷ []) = f r ∷ []
with_last f (r ∷ s ∷ rs) = r ∷ with_last f (s ∷ rs)

IsLike-last : (f : Refill → Refill) (n from end to : ℕ) (rs : List Refill) → ((r : Refill) → r.begins + r.amount ≡ end → (r.begins ≤ (f r).begins) × (r.amount ≤ (f r).amount) × ((f r).begins + (f r).amount ≡ to)) →
    IsLike rs n from end → IsLike (with_last f rs) n from to
IsLike-last f n from end to [] put h = absurd (omega (arith, h.some))
IsLike-last f n from end to (r ∷ []) put h =
    let g = put r h.end_is in
    record { apart = (omega (arith, h.apart.0, g.1), tt, tt); some = omega arith; few = h.few; from_is = omega (arith, h.from_is, g.0); end_is = g.2 }
IsLike-last f n from end to (r ∷ s ∷ rs) put h =
    IsLike-cons r (length (s ∷ rs)) n from s.begins to (with_last f (s ∷ rs)) (omega (arith, h.few)) h.apart.0 h.from_is h.apart.1
    (IsLike-last f (length (s ∷ rs)) s.begins end to (s ∷ rs) put (IsLike-rest r s _ n from end rs (omega arith) h))

IsLike-more : (back : Refill) (n from end : ℕ) (rs : List Refill) → end < back.begins → 1 ≤ back.amount → length rs < n → IsLike rs n from end → IsLike (rs ++ back ∷ []) n from (back.begins + back.amount)
IsLike-more back n from end [] l p q h = absurd (omega (arith, h.some))
IsLike-more back n from end (r ∷ []) l p q h =
    IsLike-cons r 1 n from back.begins _ (back ∷ []) q h.apart.0 h.from_is (omega (arith, h.end_is)) (IsLike-one back 1 back.begins p (omega arith) (omega arith))
IsLike-more back n from end (r ∷ s ∷ rs) l p q h =
    IsLike-cons r (length (s ∷ rs) + 1) n from s.begins _ (s ∷ rs ++ back ∷ []) (omega arith) h.apart.0 h.from_is h.apart.1
    (IsLike-more back (length (s ∷ rs) + 1) s.begins end (s ∷ rs) l p (omega arith) (IsLike-rest r s _ n from end rs (omega arith) h))

-- a returned refill is appended
IsLike-given_back : (back : Refill) (n from end : ℕ) (ts : List Refill) → end ≤ back.begins → 1 ≤ back.amount → IsLike ts n from end → IsLike (given_back n back ts) n from (back.begins + back.amount)
IsLike-given_back back n from end [] l p h = absurd (omega (arith, h.some))
IsLike-given_back back n from end (r ∷ rs) l p h = elim (cases_eq (last_end (r ∷ rs)) back.begins) [
  | inl e ↦
      rw (eq-eqb (last_end (r ∷ rs)) back.begins e)
      (IsLike-last (λ x. record { begins = x.begins; amount = x.amount + back.amount }) n from end (back.begins + back.amount) (r ∷ rs) (λ x at. (omega arith, omega arith, omega (arith, h.end_is))) h)
  | inr ne ↦ rw (ne_eqb (last_end (r ∷ rs)) back.begins ne) (elim (cases_lt (length (r ∷ rs)) n) [
    | inl less ↦ rw (lt-ltb (length (r ∷ rs)) n less) (IsLike-more back n from end (r ∷ rs) (omega (arith, h.end_is)) p less h)
    | inr full ↦
        rw (le-ltb (length (r ∷ rs)) n full)
        (IsLike-last (λ x. record { begins = x.begins; amount = x.amount + back.amount }) n from back.begins (back.begins + back.amount) _ (λ x at. (omega arith, omega arith, omega arith))
        (IsLike-last (λ x. record { begins = back.begins - x.amount; amount = x.amount }) n from end back.begins (r ∷ rs) (λ x at. (omega arith, omega arith, omega arith)) h))
  ])
]

-- enough at the head keeps the end
IsLike-gathered : (min_budget n from end : ℕ) (r : Refill) (rs : List Refill) → IsLike (r ∷ rs) n from end → IsLike (gathered min_budget r rs) n from end
IsLike-gathered min_budget n from end r [] h = h
IsLike-gathered min_budget n from end r (s ∷ rs) h =
    cond_both (nat_lt r.amount min_budget) (gathered min_budget (joined r s) rs) (r ∷ s ∷ rs) (λ xs. IsLike xs n from end) (λ e. IsLike-gathered min_budget n from end (joined r s) rs (record {
      apart = (omega (arith, h.apart.0), IsBefore-end s (joined r s) rs (omega (arith, h.apart.1)) h.apart.2.1, h.apart.2.2);
      some = omega arith;
      few = omega (arith, h.few);
      from_is = omega (arith, h.from_is, h.apart.1);
      end_is = omega (arith, h.end_is, last_end-head s (joined r s) rs (omega (arith, h.apart.1)), last_end-head (joined r s) s rs (omega (arith, h.apart.1)));
    })) (λ e. h)

pub IsLike-enough : (min_budget n from end : ℕ) (rs : List Refill) → IsLike rs n from end → IsLike (enough min_budget rs) n from end
IsLike-enough min_budget n from end [] h = h
IsLike-enough min_budget n from end (r ∷ rs) h = IsLike-gathered min_budget n from end r rs h

-- a charge of k to the first of these refills
module _ (k period n : ℕ) (r : Refill) (rs : List Refill) (p : 1 ≤ k) (le : k ≤ r.amount) (a : AreApart (r ∷ rs)) (few : length (r ∷ rs) ≤ n) (spans : last_end (r ∷ rs) ≤ r.begins + period) where
  abbrev back : Refill
  back = record { begins = r.begins + period; amount = k }

  abbrev left : Refill
  left = record { begins = r.begins + k; amount = r.amount - k }

  -- what is left is none, or again such a list
  left_is : (left_after k r rs ≡ []) ⊎ IsLike (left_after k r rs) n (r.begins + k) (last_end (r ∷ rs))
  left_is = elim (cases_eq k r.amount) [
    | inl e ↦ rw (eq-eqb k r.amount e) (rest rs a few)
    | inr ne ↦ rw (ne_eqb k r.amount ne) (inr (record {
      apart = (omega arith, IsBefore-end r left rs (omega arith) a.1, a.2);
      some = omega arith;
      few = few;
      from_is = omega arith;
      end_is = omega (arith, last_end-head r left rs (omega arith), last_end-head left r rs (omega arith));
    }))
  ]
    where
      rest : (rs : List Refill) → AreApart (r ∷ rs) → length (r ∷ rs) ≤ n → (rs ≡ []) ⊎ IsLike rs n (r.begins + k) (last_end (r ∷ rs))
      rest [] a few = inl refl
      rest (s ∷ rs) a few = inr (record { apart = a.2; some = omega arith; few = omega arith; from_is = omega (arith, a.1); end_is = refl })

  pub IsLike-back : IsLike (given_back n back (left_after k r rs)) n (r.begins + k) (r.begins + period + k)
  IsLike-back = elim left_is [
    | inl e ↦ rw e (IsLike-one back n (r.begins + k) p (omega arith) (omega (arith, last_end-first r rs a)))
    | inr i ↦ IsLike-given_back back n (r.begins + k) (last_end (r ∷ rs)) (left_after k r rs) spans p i
  ]

  dates_of-back : dates_of (given_back n back (left_after k r rs)) ≡ charged k period n (dates_of (r ∷ rs))
  dates_of-back =
      dates_of-given_back n k (r.begins + period) (left_after k r rs) (elim left_is [ inl e ↦ rw e tt | inr i ↦ i.apart ]) p (elim left_is [ inl e ↦ rw e (omega arith) | inr i ↦ omega (arith, i.end_is) ])
      ∙ rw (take-range k r.amount r.begins (dates_of rs) le, drop-range k r.amount r.begins (dates_of rs) le, map-range period k r.begins, dates_of-left_after k r rs le) refl

  -- with enough at the head
  pub IsLike-charge : (min_budget : ℕ) → IsLike (after_charge k min_budget period n (r ∷ rs)) n (r.begins + k) (r.begins + period + k)
  IsLike-charge min_budget = IsLike-enough min_budget n (r.begins + k) (r.begins + period + k) _ IsLike-back

  pub dates_of-charge : (min_budget : ℕ) → dates_of (after_charge k min_budget period n (r ∷ rs)) ≡ with_enough min_budget (charged k period n (dates_of (r ∷ rs)))
  dates_of-charge min_budget = ap (λ xs. dates_of (enough min_budget xs)) (sym (refills_of-dates_of _ IsLike-back.apart)) ∙ ap (with_enough min_budget) dates_of-back

first_moment-before : (rs : List Refill) → AreApart rs → 1 ≤ length rs → first_moment rs < last_end rs
first_moment-before [] a l = absurd (omega arith)
first_moment-before (r ∷ rs) a l = omega (arith, a.0, last_end-first r rs a)

-- what is kept of the refills, a charge keeps
pub IsKept-charge : (k min_budget period max_refills : ℕ) (rs : List Refill) → 1 ≤ k → k ≤ first_amount rs → first_moment rs ≤ 2 ^ 40 → IsKept rs period max_refills →
    IsKept (after_charge k min_budget period max_refills rs) period max_refills
IsKept-charge k min_budget period max_refills [] p le early h = absurd (omega (arith, h.some))
IsKept-charge k min_budget period max_refills (r ∷ rs) p le early h =
    let i = IsLike-charge k period max_refills r rs p le h.apart h.few h.spans min_budget in
    record {
      apart = i.apart;
      some = i.some;
      few = i.few;
      two = h.two;
      spans = omega (arith, i.end_is, i.from_is);
      short = h.short;
      early = omega (arith, i.end_is, h.short, h.spans, last_end-first r rs h.apart, first_moment-before _ i.apart i.some);
    }

-- and the dates of the refills are those of a charge, with enough at the head
pub dates_of-after_charge : (k min_budget period max_refills : ℕ) (rs : List Refill) → 1 ≤ k → k ≤ first_amount rs → IsKept rs period max_refills →
    dates_of (after_charge k min_budget period max_refills rs) ≡ with_enough min_budget (charged k period max_refills (dates_of rs))
dates_of-after_charge k min_budget period max_refills [] p le h = absurd (omega (arith, h.some))
dates_of-after_charge k min_budget period max_refills (r ∷ rs) p le h = dates_of-charge k period max_refills r rs p le h.apart h.few h.spans min_budget

-- what the steps of a charge need
pub record CanCharge (k period max_refills : ℕ) (rs : List Refill) : Type 0 where
  pub ends : first_moment rs + first_amount rs ≤ 2 ^ 42
  pub apart : AreApart (given_back max_refills (record { begins = first_moment rs + period; amount = k }) (taken k rs))
  pub early : last_end (given_back max_refills (record { begins = first_moment rs + period; amount = k }) (taken k rs)) ≤ first_moment rs + period + k
  pub head : k ≤ period

pub can_charge : (k period max_refills : ℕ) (rs : List Refill) → 1 ≤ k → k ≤ first_amount rs → IsKept rs period max_refills → CanCharge k period max_refills rs
can_charge k period max_refills [] p le h = absurd (omega (arith, h.some))
can_charge k period max_refills (r ∷ rs) p le h =
    let first = last_end-first r rs h.apart in
    let i = IsLike-back k period max_refills r rs p le h.apart h.few h.spans in
    record { ends = omega (arith, h.early, h.spans, h.short); apart = i.apart; early = omega (arith, i.end_is); head = omega (arith, h.spans) }
