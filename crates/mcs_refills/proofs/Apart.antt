-- The refills of dates that ascend are apart, and have the dates among them.
use Rattle.std.proofs.Common.{◌≡◌, ℕ, ◌+◌, ◌≤◌, List, [], ◌∷◌, length, map, refl, ◌∙◌, arith}
use Rattle.std.proofs.lemmas.List.Sums.{sum_by-cons}
use Rattle.mcs_refills.specs.declared.refill.Refill.{Refill}
use Rattle.mcs_refills.specs.Server.{with_date, refills_of, first_moment}
use Rattle.mcs_refills.specs.laws.Apart.{total_amount, last_end, RefillsOfDates, ServersHaveTheirBudgets}
use Rattle.mcs_refills.proofs.Spaces.{IsLaid, laid-refills_of}
use Rattle.mcs_refills.proofs.Servers.{apart-refills_of, laid-ends}

pub total-cons : (r : Refill) (rs : List Refill) → total_amount (r ∷ rs) ≡ r.amount + total_amount rs
total-cons r rs = sum_by-cons (λ x. x) r.amount (map (λ (refill : Refill). refill.amount) rs)

-- one date more is one tick more
total-with_date : (date : ℕ) (rs : List Refill) → total_amount (with_date date rs) ≡ total_amount rs + 1
total-with_date date [] = refl
total-with_date date (r ∷ rs) =
    grind (arith, total-cons (record { begins = date; amount = r.amount + 1 }) rs, total-cons r rs, total-cons (record { begins = date; amount = 1 }) (r ∷ rs))

pub total-refills_of : (us : List ℕ) → total_amount (refills_of us) ≡ length us
total-refills_of [] = refl
total-refills_of (u ∷ us) = omega (arith, total-with_date u (refills_of us), total-refills_of us)

pub refills-of-dates : RefillsOfDates
refills-of-dates low high dates h = (apart-refills_of low high dates h, total-refills_of dates)

-- refills that are laid within a period span at most a period
spans : (low period : ℕ) (rs : List Refill) → IsLaid low (low + period) rs → last_end rs ≤ first_moment rs + period
spans low period [] h = omega arith
spans low period (r ∷ rs) h = omega (arith, laid-ends low (low + period) r rs h, h.0)

pub servers-have-their-budgets : ServersHaveTheirBudgets
servers-have-their-budgets budget server h =
    let low = h.kept.low in
    record {
      apart = (refills-of-dates low (low + server.period) server.dates h.kept.within).0;
      all = total-refills_of server.dates ∙ h.kept.all;
      few = h.few;
      short = spans low server.period (refills_of server.dates) (laid-refills_of low (low + server.period) server.dates (omega arith) h.kept.within);
    }
