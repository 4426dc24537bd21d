-- An order, as it is done on refills.
use Rattle.std.proofs.Common.{◌≡◌, ℕ, ◌+◌, ◌-◌, min, max, List, ◌++◌, ap, append-nil, arith}
use Rattle.std.specs.List.{range_with_len}
use Rattle.std.proofs.lemmas.Bool.Decides.{nat_tests}
use Rattle.mcs_refills.specs.declared.refill.Refill.{Refill}
use Rattle.mcs_refills.specs.laws.Apart.{AreApart}
use Rattle.mcs_refills.specs.stored.Refills.{missing_refill, after_reconfigure}
use Rattle.mcs_refills.specs.Server.{dates_of, reconfigured, first_moment, first_amount}
use Rattle.mcs_refills.proofs.Heads.{first_date-dates_of, head_amount-dates_of}

dates_of-missing : (n m : ℕ) → dates_of (missing_refill n m) ≡ range_with_len (m - n) n
dates_of-missing n m = grind (arith, nat_tests, append-nil (range_with_len (m - n) n))

pub dates_of-after_reconfigure : (t budget period : ℕ) (rs : List Refill) → AreApart rs → dates_of (after_reconfigure t budget period rs) ≡ reconfigured t budget period (dates_of rs)
dates_of-after_reconfigure t budget period rs h =
    rw (first_date-dates_of rs h, head_amount-dates_of rs h)
    (ap (λ xs. range_with_len (max (first_moment rs) t) (min (first_amount rs) budget) ++ xs)
    (dates_of-missing (budget - min (first_amount rs) budget) (max (first_moment rs) t + period)))
