-- The head has enough.
use Rattle.std.proofs.Common.{◌≡◌, ℕ, zero, suc, ◌+◌, ◌-◌, ◌<◌, ◌≤◌, false, min, max, List, [], ◌∷◌, length, refl, subst, ap, ◌∙◌, arith}
use Rattle.std.specs.Prelude.{◌==◌, nat_lt}
use Rattle.std.proofs.lemmas.Bool.{cond_both}
use Rattle.std.proofs.lemmas.Bool.Decides.{nat_tests}
use Rattle.mcs_refills.specs.declared.refill.Refill.{Refill}
use Rattle.mcs_refills.specs.laws.Apart.{AreApart, total_amount, last_end}
use Rattle.mcs_refills.specs.stored.Refills.{with_reached, after_unblock, after_reconfigure}
use Rattle.mcs_refills.specs.Server.{dates_of, refills_of, first_moment, first_amount, head_amount, charged, enough, gathered, joined, with_enough, unblocked, reconfigured}
use Rattle.mcs_refills.specs.laws.Spacing.{IsWithin, AreKept}
use Rattle.mcs_refills.specs.laws.Servers.{HeadsHaveEnough}
use Rattle.mcs_refills.proofs.Dates.{refills_of-dates_of}
use Rattle.mcs_refills.proofs.Charges.{IsLike-enough}
use Rattle.mcs_refills.proofs.Reconfigures.{dates_of-after_reconfigure}
use Rattle.mcs_refills.proofs.Apart.{total-cons, total-refills_of}
use Rattle.mcs_refills.proofs.Heads.{refills-shown}
use Rattle.mcs_refills.proofs.Spaces.{dates_of-refills_of, kept-charged}
use Rattle.mcs_refills.proofs.Servers.{apart-refills_of, refills-unblocked}

first-gathered : (min_budget : ℕ) (r : Refill) (rs : List Refill) → min_budget ≤ total_amount (r ∷ rs) → min_budget ≤ first_amount (gathered min_budget r rs)
first-gathered min_budget r [] l = omega (arith, total-cons r [])
first-gathered min_budget r (s ∷ rs) l =
    grind (arith, nat_tests, first-gathered min_budget (joined r s) rs, total-cons r (s ∷ rs), total-cons s rs, total-cons (joined r s) rs)

-- enough at the head, of refills that lie apart and of dates that ascend
first-enough : (min_budget : ℕ) (rs : List Refill) → AreApart rs → min_budget ≤ total_amount rs → min_budget ≤ head_amount (dates_of (enough min_budget rs))
first-enough min_budget [] a l = omega arith
first-enough min_budget (r ∷ rs) a l =
    let i = IsLike-enough min_budget (length (r ∷ rs)) r.begins (last_end (r ∷ rs)) (r ∷ rs) (record { apart = a; some = omega arith; few = omega arith; from_is = omega arith; end_is = refl }) in
    rw (refills_of-dates_of (gathered min_budget r rs) i.apart) (first-gathered min_budget r rs l)

head-enough : (min_budget low high : ℕ) (us : List ℕ) → IsWithin low high us → min_budget ≤ length us → min_budget ≤ head_amount (with_enough min_budget us)
head-enough min_budget low high us h l = first-enough min_budget (refills_of us) (apart-refills_of low high us h) (omega (arith, total-refills_of us))

-- a minimum of 0 at the head moves no date
with_enough-none : (us : List ℕ) → with_enough 0 us ≡ us
with_enough-none us = ap dates_of (by (refills_of us)) ∙ dates_of-refills_of us
  where
    by : (rs : List Refill) → enough 0 rs ≡ rs
    by [] = refl
    by (r ∷ []) = refl
    by (r ∷ s ∷ rs) = let e : nat_lt r.amount 0 ≡ false = grind (arith, nat_tests) in rw e refl

head-charged : (k min_budget budget period max_refills : ℕ) (us : List ℕ) → AreKept budget period us → 1 ≤ k → min_budget ≤ budget → min_budget ≤ head_amount (with_enough min_budget (charged k period max_refills us))
head-charged k min_budget budget period max_refills us h p l =
    let P : List ℕ → Type 0 = λ xs. AreKept budget period xs in
    let i = subst P (with_enough-none (charged k period max_refills us)) (kept-charged budget period max_refills k 0 us p h).1 in
    head-enough min_budget i.low (i.low + period) (charged k period max_refills us) i.within (omega (arith, i.all))

-- a head that reaches others grows
first-reached : (b a : ℕ) (rs : List Refill) → a ≤ first_amount (with_reached b a rs)
first-reached b a [] = omega arith
first-reached b a (s ∷ rs) = grind (arith, first-reached b (a + s.amount) rs)

first-unblocked : (t : ℕ) (rs : List Refill) → first_amount rs ≤ first_amount (after_unblock t rs)
first-unblocked t [] = omega arith
first-unblocked t (r ∷ rs) = grind (arith, first-reached t r.amount rs)

head-unblocked : (t low high : ℕ) (us : List ℕ) → IsWithin low high us → head_amount us ≤ head_amount (unblocked t us)
head-unblocked t low high us h = omega (arith, ap first_amount (refills-unblocked t low high us h), first-unblocked t (refills_of us))

apart-reconfigured : (t budget period : ℕ) (rs : List Refill) → 1 ≤ min (first_amount rs) budget → budget < period → AreApart (after_reconfigure t budget period rs)
apart-reconfigured t budget period rs p l =
    let begins = max (first_moment rs) t in
    let amount = min (first_amount rs) budget in
    cond_both (budget - amount == 0) [] (record { begins = begins + period - (budget - amount); amount = budget - amount } ∷ []) (λ xs. AreApart (record { begins = begins; amount = amount } ∷ xs))
    (λ e. (p, tt, tt)) (λ e. (p, omega arith, (grind (arith, nat_tests), tt, tt)))

head-reconfigured : (t min_budget budget period low high : ℕ) (us : List ℕ) → IsWithin low high us → budget < period → min_budget ≤ budget → min_budget ≤ head_amount us →
    min_budget ≤ head_amount (reconfigured t budget period us)
head-reconfigured t zero budget period low high us h l m n = omega arith
head-reconfigured t (suc min_budget) budget period low high us h l m n =
    let shown = refills-shown (after_reconfigure t budget period (refills_of us)) (reconfigured t budget period us) (apart-reconfigured t budget period (refills_of us) (omega arith) l)
    (dates_of-after_reconfigure t budget period (refills_of us) (apart-refills_of low high us h) ∙ ap (reconfigured t budget period) (dates_of-refills_of us)) in
    omega (arith, ap first_amount shown)

pub heads-enough : HeadsHaveEnough
heads-enough min_budget budget server h = (
  λ k p l. head-charged k min_budget budget server.period server.max_refills server.dates h.kept p l,
  λ t l. omega (arith, head-unblocked t h.kept.low (h.kept.low + server.period) server.dates h.kept.within),
  λ t next period max_refills l m n. head-reconfigured t min_budget next period h.kept.low (h.kept.low + server.period) server.dates h.kept.within l m n,
)
