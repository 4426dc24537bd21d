-- Refills that begin later, and their dates.
use Rattle.std.proofs.Common.{◌≡◌, ℕ, None, ◌+◌, ◌<◌, Bool, true, false, cond, List, [], ◌∷◌, ◌++◌, length, map, get_or, refl, sym, ap, ◌∙◌, arith}
use Rattle.std.specs.Prelude.{◌==◌}
use Rattle.std.specs.List.{range_with_len}
use Rattle.std.proofs.lemmas.Bool.Decides.{nat_tests}
use Rattle.std.proofs.lemmas.List.{map-append, get_or-map, length-map, ext_get_or}
use Rattle.mcs_refills.specs.declared.refill.Refill.{Refill}
use Rattle.mcs_refills.specs.Server.{dates_of, with_date, refills_of}
use Rattle.mcs_refills.proofs.Dates.{map-range}
use Rattle.mcs_refills.proofs.Spaces.{dates_of-refills_of}
use Rattle.mcs_control.specs.Context.{Budget, refills_shown, left_shown}
use Rattle.mcs_control.specs.Context.Budget.{Dates, Slice}
use Rattle.mcs_ever.specs.Later.{later_dates}
use Rattle.mcs_ever_again.specs.Lag.{later_refill}

-- past the end of a list
abbrev pub no_refill : Refill
no_refill = record { begins = 0; amount = 0 }

-- refills that are later in each place are the others, later
pub all-later : (lag : ℕ) (before after : List Refill) → length before ≡ length after →
    ((k : ℕ) → k < length before → get_or after k no_refill ≡ later_refill lag (get_or before k no_refill)) →
    after ≡ map (later_refill lag) before
all-later lag before after many at =
    ext_get_or no_refill after (map (later_refill lag) before) (sym many ∙ sym (length-map before (later_refill lag)))
    (λ k l.
    let within : k < length before = omega (arith, many, l) in
    at k within ∙ sym (get_or-map (later_refill lag) before k no_refill no_refill within))

-- a test of moved numbers
next-later : (a b lag : ℕ) → (a + lag + 1 == b + lag) ≡ (a + 1 == b)
next-later a b lag = grind (arith, nat_tests)

module _ (lag : ℕ) where
  abbrev laters : List Refill → List Refill
  laters refills = map (later_refill lag) refills

  with_date-later : (date : ℕ) (rs : List Refill) → with_date (date + lag) (laters rs) ≡ laters (with_date date rs)
  with_date-later date [] = refl
  with_date-later date (r ∷ rs) = rw (next-later date r.begins lag) (by (date + 1 == r.begins))
    where
      by : (b : Bool) →
          cond b (record { begins = date + lag; amount = r.amount + 1 } ∷ laters rs) (record { begins = date + lag; amount = 1 } ∷ laters (r ∷ rs))
          ≡ laters (cond b (record { begins = date; amount = r.amount + 1 } ∷ rs) (record { begins = date; amount = 1 } ∷ r ∷ rs))
      by true = refl
      by false = refl

  -- the refills of dates that are later are the refills, later
  pub refills_of-later : (dates : List ℕ) → refills_of (later_dates lag dates) ≡ laters (refills_of dates)
  refills_of-later [] = refl
  refills_of-later (date ∷ dates) = ap (with_date (date + lag)) (refills_of-later dates) ∙ with_date-later date (refills_of dates)

  -- and the dates of refills that are later are the dates, later
  pub dates_of-later : (rs : List Refill) → dates_of (laters rs) ≡ later_dates lag (dates_of rs)
  dates_of-later [] = refl
  dates_of-later (r ∷ rs) =
      ap (λ dates. range_with_len (r.begins + lag) r.amount ++ dates) (dates_of-later rs)
      ∙ ap (λ dates. dates ++ later_dates lag (dates_of rs)) (sym (map-range lag r.amount r.begins))
      ∙ sym (map-append (λ date. date + lag) (range_with_len r.begins r.amount) (dates_of rs))

-- refills are later exactly if their dates are, for refills that are those of their dates
pub refills-are-later : (lag : ℕ) (before after : List Refill) → refills_of (dates_of before) ≡ before → refills_of (dates_of after) ≡ after →
    dates_of after ≡ later_dates lag (dates_of before) → after ≡ map (later_refill lag) before
refills-are-later lag before after regular regular' same =
    sym regular' ∙ ap refills_of same ∙ refills_of-later lag (dates_of before) ∙ ap (map (later_refill lag)) regular

pub dates-are-later : (lag : ℕ) (before after : List Refill) → after ≡ map (later_refill lag) before → dates_of after ≡ later_dates lag (dates_of before)
dates-are-later lag before after same = ap dates_of same ∙ dates_of-later lag before

-- the refills that a budget shows are those of their dates
pub regular-shown : (budget : Budget) → refills_of (dates_of (refills_shown budget)) ≡ refills_shown budget
regular-shown (Dates dates) = ap refills_of (dates_of-refills_of dates)
regular-shown (Slice left) = refl

-- the budget is the one that its refills show
pub dates-shown : (refills : List Refill) (budget : Budget) → refills ≡ refills_shown budget → None ≡ left_shown budget → Dates (dates_of refills) ≡ budget
dates-shown refills (Dates dates) shown none = ap (λ refills. Dates (dates_of refills)) shown ∙ ap Dates (dates_of-refills_of dates)
dates-shown refills (Slice left) shown none = cc
