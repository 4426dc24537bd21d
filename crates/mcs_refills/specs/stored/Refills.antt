-- The refills of a server as a list: the invariant of the type, and the effect of each step on the
-- list.
use Rattle.std.specs.Prelude.{ℕ, ◌+◌, ◌-◌, ◌*◌, ◌^◌, ◌≤◌, min, max, ◌==◌, nat_lt, nat_le, if◌then◌else◌, List, [], ◌∷◌, ◌++◌, length}
use Rattle.mcs_refills.specs.declared.refill.Refill.{Refill}
use Rattle.mcs_refills.specs.Server.{first_moment, first_amount, last_moved, enough}
use Rattle.mcs_refills.specs.laws.Apart.{AreApart, last_end}

-- the invariant: the refills are apart, are at most `max_refills`, and span at most a period. An
-- order may keep a head that a charge has moved later, so the head's moment has a separate bound
pub record IsKept (refills : List Refill) (period max_refills : ℕ) : Type 0 where
  pub apart : AreApart refills
  pub some : 1 ≤ length refills
  pub few : length refills ≤ max_refills
  pub two : 2 ≤ max_refills
  pub spans : last_end refills ≤ first_moment refills + period
  pub short : period ≤ 2 ^ 40
  pub early : first_moment refills ≤ 3 * 2 ^ 40

-- the invariant, and the capacity for the refills, allocated once
pub record IsStored (refills : List Refill) (period max_refills room : ℕ) : Type 0 where
  pub kept : IsKept refills period max_refills
  pub fits : max_refills ≤ room

-- the refills that remain after k ticks are taken
abbrev pub left_after : ℕ → Refill → List Refill → List Refill
left_after k r rs = if k == r.amount then rs else record { begins = r.begins + k; amount = r.amount - k } ∷ rs

abbrev pub taken : ℕ → List Refill → List Refill
taken k [] = []
taken k (r ∷ rs) = left_after k r rs

-- the list with k more ticks at the end of its last refill
abbrev pub grown : ℕ → List Refill → List Refill
grown k [] = []
grown k (r ∷ []) = record { begins = r.begins; amount = r.amount + k } ∷ []
grown k (r ∷ s ∷ rs) = r ∷ grown k (s ∷ rs)

-- the refills after a returned one is appended
abbrev pub given_back : ℕ → Refill → List Refill → List Refill
given_back max_refills back [] = back ∷ []
given_back max_refills back (r ∷ rs) =
    if last_end (r ∷ rs) == back.begins then grown back.amount (r ∷ rs)
    else if nat_lt (length (r ∷ rs)) max_refills then (r ∷ rs) ++ back ∷ []
    else grown back.amount (last_moved back.begins (r ∷ rs))

-- the refills after a charge
abbrev pub after_charge : ℕ → ℕ → ℕ → ℕ → List Refill → List Refill
after_charge k min_budget period max_refills rs =
    enough min_budget (given_back max_refills (record { begins = first_moment rs + period; amount = k }) (taken k rs))

-- the head (begins, amount), joined with the refills after it that it reaches
abbrev pub with_reached : ℕ → ℕ → List Refill → List Refill
with_reached begins amount [] = record { begins = begins; amount = amount } ∷ []
with_reached begins amount (next ∷ others) =
    if nat_le next.begins (begins + amount)
    then with_reached begins (amount + next.amount) others
    else record { begins = begins; amount = amount } ∷ next ∷ others

-- the refills after unblocking at t
abbrev pub after_unblock : ℕ → List Refill → List Refill
after_unblock t [] = []
after_unblock t (r ∷ rs) = if nat_lt t r.begins then r ∷ rs else with_reached t r.amount rs

-- a refill that ends at the moment; no refill if it would be empty
abbrev pub missing_refill : ℕ → ℕ → List Refill
missing_refill amount moment = if amount == 0 then [] else record { begins = moment - amount; amount = amount } ∷ []

-- the refills after an order at t
abbrev pub after_reconfigure : ℕ → ℕ → ℕ → List Refill → List Refill
after_reconfigure t budget period rs =
    let begins = max (first_moment rs) t in
    let amount = min (first_amount rs) budget in
    record { begins = begins; amount = amount } ∷ missing_refill (budget - amount) (begins + period)
