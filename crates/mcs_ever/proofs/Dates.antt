-- Operations on dates that are later by d: their results are those for the dates, later by d.
use Rattle.std.proofs.Common.{◌≡◌, ℕ, zero, suc, ◌+◌, ◌≤◌, Bool, true, false, ◌||◌, cond, List, [], ◌∷◌, ◌++◌, length, map, take, drop, refl, sym, ap, subst, ◌∙◌, arith}
use Rattle.std.specs.Prelude.{◌==◌, nat_lt}
use Rattle.std.specs.List.{range_with_len}
use Rattle.std.proofs.lemmas.Bool.Decides.{nat_tests}
use Rattle.std.proofs.lemmas.List.{map-append, length-map}
use Rattle.mcs_refills.specs.declared.refill.Refill.{Refill}
use Rattle.mcs_refills.specs.Server.{dates_of, with_date, refills_of, last_date, first_amount, head_amount, last_moved, rejoined, charged, charged_with_enough, touches, unblocked, with_enough, enough, gathered, joined}
use Rattle.mcs_refills.specs.laws.Spacing.{IsWithin, AreKept}
use Rattle.mcs_refills.proofs.Dates.{map-range}
use Rattle.mcs_refills.proofs.Spaces.{IsLaid, laid-refills_of, dates_of-refills_of, kept-charged}
use Rattle.mcs_ever.specs.Later.{later_dates}

abbrev later_refill : ℕ → Refill → Refill
later_refill by refill = record { begins = refill.begins + by; amount = refill.amount }

-- a test of moved numbers
next-later : (a b d : ℕ) → (a + d + 1 == b + d) ≡ (a + 1 == b)
next-later a b d = grind (arith, nat_tests)

module _ (d : ℕ) where
  abbrev pub laters : List Refill → List Refill
  laters rs = map (later_refill d) rs

  with_date-later : (date : ℕ) (rs : List Refill) → with_date (date + d) (laters rs) ≡ laters (with_date date rs)
  with_date-later date [] = refl
  with_date-later date (r ∷ rs) = rw (next-later date r.begins d) (by (date + 1 == r.begins))
    where
      by : (b : Bool) →
          cond b (record { begins = date + d; amount = r.amount + 1 } ∷ laters rs) (record { begins = date + d; amount = 1 } ∷ laters (r ∷ rs))
          ≡ laters (cond b (record { begins = date; amount = r.amount + 1 } ∷ rs) (record { begins = date; amount = 1 } ∷ r ∷ rs))
      by true = refl
      by false = refl

  pub refills-later : (dates : List ℕ) → refills_of (later_dates d dates) ≡ laters (refills_of dates)
  refills-later [] = refl
  refills-later (date ∷ dates) = ap (with_date (date + d)) (refills-later dates) ∙ with_date-later date (refills_of dates)

  first_amount-later : (rs : List Refill) → first_amount (laters rs) ≡ first_amount rs
  first_amount-later [] = refl
  first_amount-later (r ∷ rs) = refl

  pub head_amount-later : (dates : List ℕ) → head_amount (later_dates d dates) ≡ head_amount dates
  head_amount-later dates = ap first_amount (refills-later dates) ∙ first_amount-later (refills_of dates)

  dates_of-later : (rs : List Refill) → dates_of (laters rs) ≡ later_dates d (dates_of rs)
  dates_of-later [] = refl
  dates_of-later (r ∷ rs) =
      ap (λ dates. range_with_len (r.begins + d) r.amount ++ dates) (dates_of-later rs)
      ∙ ap (λ dates. dates ++ later_dates d (dates_of rs)) (sym (map-range d r.amount r.begins))
      ∙ sym (map-append (λ date. date + d) (range_with_len r.begins r.amount) (dates_of rs))

  last_date-later : (date : ℕ) (dates : List ℕ) → last_date (later_dates d (date ∷ dates)) ≡ last_date (date ∷ dates) + d
  last_date-later date [] = refl
  last_date-later date (next ∷ dates) = last_date-later next dates

  drop-later : (k : ℕ) (dates : List ℕ) → drop k (later_dates d dates) ≡ later_dates d (drop k dates)
  drop-later zero dates = refl
  drop-later (suc k) [] = refl
  drop-later (suc k) (date ∷ dates) = drop-later k dates

  -- the dates that return
  returned-later : (period k : ℕ) (dates : List ℕ) →
      map (λ date. date + period) (take k (later_dates d dates)) ≡ later_dates d (map (λ date. date + period) (take k dates))
  returned-later period zero dates = refl
  returned-later period (suc k) [] = refl
  returned-later period (suc k) (date ∷ dates) = both (omega arith) (returned-later period k dates)
    where
      both : {x y : ℕ} {xs ys : List ℕ} → x ≡ y → xs ≡ ys → (x ∷ xs) ≡ (y ∷ ys)
      both e f = cc

  laid-moved : (low more high : ℕ) (rs : List Refill) → low ≡ more → IsLaid low high rs → IsLaid more high rs
  laid-moved low more high rs e h = let P : ℕ → Type 0 = λ m. IsLaid m high rs in subst P e h

  last_moved-later : (low m : ℕ) (rs : List Refill) → IsLaid low m rs → last_moved (m + d) (laters rs) ≡ laters (last_moved m rs)
  last_moved-later low m [] h = refl
  last_moved-later low m (r ∷ []) h = ap (λ begins. record { begins = begins; amount = r.amount } ∷ []) (omega (arith, h.1))
  last_moved-later low m (r ∷ next ∷ rs) h = ap (λ others. later_refill d r ∷ others) (last_moved-later (r.begins + r.amount) m (next ∷ rs) h.1)

  laid-joined : (low high : ℕ) (r next : Refill) (rs : List Refill) → IsLaid low high (r ∷ next ∷ rs) → IsLaid low high (joined r next ∷ rs)
  laid-joined low high r next rs h = (omega (arith, h.0, h.1.0), laid-moved _ _ high rs (omega (arith, h.1.0)) h.1.1)

  gathered-later : (min_budget low high : ℕ) (r : Refill) (rs : List Refill) → IsLaid low high (r ∷ rs) →
      gathered min_budget (later_refill d r) (laters rs) ≡ laters (gathered min_budget r rs)
  gathered-later min_budget low high r [] h = refl
  gathered-later min_budget low high r (next ∷ rs) h =
      by (nat_lt r.amount min_budget)
      (ap (λ begins. gathered min_budget (record { begins = begins; amount = r.amount + next.amount }) (laters rs)) (omega (arith, h.1.0))
      ∙ gathered-later min_budget low high (joined r next) rs (laid-joined low high r next rs h))
    where
      by : (b : Bool) → gathered min_budget (joined (later_refill d r) (later_refill d next)) (laters rs) ≡ laters (gathered min_budget (joined r next) rs) →
          cond b (gathered min_budget (joined (later_refill d r) (later_refill d next)) (laters rs)) (laters (r ∷ next ∷ rs))
          ≡ laters (cond b (gathered min_budget (joined r next) rs) (r ∷ next ∷ rs))
      by true e = e
      by false e = refl

  pub unblocked-later : (t : ℕ) (dates : List ℕ) → unblocked (t + d) (later_dates d dates) ≡ later_dates d (unblocked t dates)
  unblocked-later t [] = refl
  unblocked-later t (date ∷ dates) =
      both (omega arith) (ap (λ m. unblocked m (later_dates d dates)) (omega arith) ∙ unblocked-later (t + 1) dates)
    where
      both : {x y : ℕ} {xs ys : List ℕ} → x ≡ y → xs ≡ ys → (x ∷ xs) ≡ (y ∷ ys)
      both e f = cc

  -- dates and those that return
  rejoined-later : (max_refills low m : ℕ) (us vs : List ℕ) → IsLaid low m (refills_of us) →
      rejoined max_refills (later_dates d us) (later_dates d (m ∷ vs)) ≡ later_dates d (rejoined max_refills us (m ∷ vs))
  rejoined-later max_refills low m [] vs h =
      same (touches [] (later_dates d (m ∷ vs)) || nat_lt 0 max_refills) _
      ∙ ap (later_dates d) (sym (same (touches [] (m ∷ vs) || nat_lt 0 max_refills) (m ∷ vs)))
    where
      same : (b : Bool) (xs : List ℕ) → cond b xs xs ≡ xs
      same true xs = refl
      same false xs = refl
  rejoined-later max_refills low m (u ∷ us) vs h =
      ap (λ b. cond b (later_dates d (u ∷ us) ++ later_dates d (m ∷ vs)) (dates_of (last_moved (m + d) (refills_of (later_dates d (u ∷ us)))) ++ later_dates d (m ∷ vs))) test
      ∙ ap (λ dates. cond (touches (u ∷ us) (m ∷ vs) || nat_lt (length (refills_of (u ∷ us))) max_refills) (later_dates d (u ∷ us) ++ later_dates d (m ∷ vs)) (dates ++ later_dates d (m ∷ vs))) moved
      ∙ by (touches (u ∷ us) (m ∷ vs) || nat_lt (length (refills_of (u ∷ us))) max_refills)
    where
      last : (last_date (later_dates d (u ∷ us)) + 1 == m + d) ≡ (last_date (u ∷ us) + 1 == m)
      last = ap (λ date. date + 1 == m + d) (last_date-later u us) ∙ next-later (last_date (u ∷ us)) m d

      many : length (refills_of (later_dates d (u ∷ us))) ≡ length (refills_of (u ∷ us))
      many = ap length (refills-later (u ∷ us)) ∙ length-map (refills_of (u ∷ us)) (later_refill d)

      test : (touches (later_dates d (u ∷ us)) (later_dates d (m ∷ vs)) || nat_lt (length (refills_of (later_dates d (u ∷ us)))) max_refills)
          ≡ (touches (u ∷ us) (m ∷ vs) || nat_lt (length (refills_of (u ∷ us))) max_refills)
      test = ap (λ b. b || nat_lt (length (refills_of (later_dates d (u ∷ us)))) max_refills) last ∙ ap (λ n. touches (u ∷ us) (m ∷ vs) || nat_lt n max_refills) many

      moved : dates_of (last_moved (m + d) (refills_of (later_dates d (u ∷ us)))) ≡ later_dates d (dates_of (last_moved m (refills_of (u ∷ us))))
      moved =
          ap (λ rs. dates_of (last_moved (m + d) rs)) (refills-later (u ∷ us))
          ∙ ap dates_of (last_moved-later low m (refills_of (u ∷ us)) h)
          ∙ dates_of-later (last_moved m (refills_of (u ∷ us)))

      by : (b : Bool) →
          cond b (later_dates d (u ∷ us) ++ later_dates d (m ∷ vs)) (later_dates d (dates_of (last_moved m (refills_of (u ∷ us)))) ++ later_dates d (m ∷ vs))
          ≡ later_dates d (cond b ((u ∷ us) ++ m ∷ vs) (dates_of (last_moved m (refills_of (u ∷ us))) ++ m ∷ vs))
      by true = sym (map-append (λ date. date + d) (u ∷ us) (m ∷ vs))
      by false = sym (map-append (λ date. date + d) (dates_of (last_moved m (refills_of (u ∷ us)))) (m ∷ vs))

  within-low : (low less high : ℕ) (us : List ℕ) → less ≤ low → IsWithin low high us → IsWithin less high us
  within-low low less high [] l h = tt
  within-low low less high (u ∷ us) l h = (omega (arith, h.0), h.1, h.2)

  within-high : (low high more : ℕ) (us : List ℕ) → high ≤ more → IsWithin low high us → IsWithin low more us
  within-high low high more [] l h = tt
  within-high low high more (u ∷ us) l h = (h.0, omega (arith, h.1), within-high (u + 1) high more us l h.2)

  within-drop : (k low high : ℕ) (us : List ℕ) → IsWithin low high us → IsWithin low high (drop k us)
  within-drop zero low high us h = h
  within-drop (suc k) low high [] h = tt
  within-drop (suc k) low high (u ∷ us) h = within-drop k low high us (within-low (u + 1) low high us (omega (arith, h.0)) h.2)

  charged-later : (k budget period max_refills : ℕ) (us : List ℕ) → 1 ≤ k → AreKept budget period us →
      charged k period max_refills (later_dates d us) ≡ later_dates d (charged k period max_refills us)
  charged-later zero budget period max_refills us l h = absurd (omega (arith, l))
  charged-later (suc k) budget period max_refills [] l h = same (nat_lt 0 max_refills)
    where
      same : (b : Bool) → cond b [] [] ≡ later_dates d (cond b [] [])
      same true = refl
      same false = refl
  charged-later (suc k) budget period max_refills (u ∷ us) l h =
      ap (rejoined max_refills (drop k (later_dates d us))) (returned-later period (suc k) (u ∷ us))
      ∙ ap (λ dates. rejoined max_refills dates (later_dates d (map (λ date. date + period) (take (suc k) (u ∷ us))))) (drop-later k us)
      ∙ rejoined-later max_refills h.low (u + period) (drop k us) (map (λ date. date + period) (take k us))
      (laid-refills_of h.low (u + period) (drop k us) (omega (arith, h.within.0))
      (within-drop k h.low (u + period) us
      (within-low (u + 1) h.low (u + period) us (omega (arith, h.within.0)) (within-high (u + 1) (h.low + period) (u + period) us (omega (arith, h.within.0)) h.within.2))))

  enough-later : (min_budget low high : ℕ) (rs : List Refill) → IsLaid low high rs → enough min_budget (laters rs) ≡ laters (enough min_budget rs)
  enough-later min_budget low high [] h = refl
  enough-later min_budget low high (r ∷ rs) h = gathered-later min_budget low high r rs h

  with_enough-later : (min_budget low high : ℕ) (us : List ℕ) → low ≤ high → IsWithin low high us →
      with_enough min_budget (later_dates d us) ≡ later_dates d (with_enough min_budget us)
  with_enough-later min_budget low high us l h =
      ap (λ rs. dates_of (enough min_budget rs)) (refills-later us)
      ∙ ap dates_of (enough-later min_budget low high (refills_of us) (laid-refills_of low high us l h))
      ∙ dates_of-later (enough min_budget (refills_of us))

  -- with no least amount the head is enough
  enough-none : (us : List ℕ) → with_enough 0 us ≡ us
  enough-none us = ap dates_of (by (refills_of us)) ∙ dates_of-refills_of us
    where
      never : (n : ℕ) → nat_lt n 0 ≡ false
      never n = grind (arith, nat_tests)

      by : (rs : List Refill) → enough 0 rs ≡ rs
      by [] = refl
      by (r ∷ []) = refl
      by (r ∷ next ∷ rs) = ap (λ b. cond b (gathered 0 (joined r next) rs) (r ∷ next ∷ rs)) (never r.amount)

  kept-before_enough : (k budget period max_refills : ℕ) (us : List ℕ) → 1 ≤ k → AreKept budget period us → AreKept budget period (charged k period max_refills us)
  kept-before_enough k budget period max_refills us l h =
      let P : List ℕ → Type 0 = λ dates. AreKept budget period dates in
      subst P (enough-none (charged k period max_refills us)) (kept-charged budget period max_refills k 0 us l h).1

  pub charge-later : (k min_budget budget period max_refills : ℕ) (us : List ℕ) → 1 ≤ k → AreKept budget period us →
      charged_with_enough k min_budget period max_refills (later_dates d us) ≡ later_dates d (charged_with_enough k min_budget period max_refills us)
  charge-later k min_budget budget period max_refills us l h =
      let kept = kept-before_enough k budget period max_refills us l h in
      ap (with_enough min_budget) (charged-later k budget period max_refills us l h)
      ∙ with_enough-later min_budget kept.low (kept.low + period) (charged k period max_refills us) (omega arith) kept.within
