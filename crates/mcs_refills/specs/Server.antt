-- The budget of a sporadic server as dates: for each tick, the moment from which it may be used.
-- The dates ascend. A refill is a longest run of consecutive dates, and the head is the first
-- refill.
use Rattle.std.specs.Prelude.{ℕ, ◌+◌, ◌-◌, min, max, Bool, ◌||◌, ◌==◌, nat_lt, nat_le, if◌then◌else◌, List, [], ◌∷◌, ◌++◌, map, length, take, drop}
use Rattle.std.specs.List.{range_with_len}
use Rattle.mcs_refills.specs.declared.refill.Refill.{Refill}

-- `amount` consecutive dates from `begins` on
abbrev pub dates_from : ℕ → ℕ → List ℕ
dates_from begins amount = range_with_len begins amount

-- the dates of a list of refills
abbrev pub dates_of : List Refill → List ℕ
dates_of [] = []
dates_of (refill ∷ refills) = dates_from refill.begins refill.amount ++ dates_of refills

-- the refills with one more date before them: if it touches the first refill, it joins that
abbrev pub with_date : ℕ → List Refill → List Refill
with_date date [] = record { begins = date; amount = 1 } ∷ []
with_date date (first ∷ others) =
    if date + 1 == first.begins
    then record { begins = date; amount = first.amount + 1 } ∷ others
    else record { begins = date; amount = 1 } ∷ first ∷ others

-- the refills of a list of dates: its longest runs of consecutive dates
abbrev pub refills_of : List ℕ → List Refill
refills_of [] = []
refills_of (date ∷ dates) = with_date date (refills_of dates)

-- the moment of the head: the first date
abbrev pub first_moment : List Refill → ℕ
first_moment [] = 0
first_moment (head ∷ others) = head.begins

abbrev pub first_amount : List Refill → ℕ
first_amount [] = 0
first_amount (head ∷ others) = head.amount

abbrev pub first_date : List ℕ → ℕ
first_date [] = 0
first_date (date ∷ dates) = date

-- the last date
abbrev pub last_date : List ℕ → ℕ
last_date [] = 0
last_date (date ∷ []) = date
last_date (date ∷ next ∷ dates) = last_date (next ∷ dates)

-- the number of dates of the head
abbrev pub head_amount : List ℕ → ℕ
head_amount dates = first_amount (refills_of dates)

-- the server is ready at t if its first date is at most t
abbrev pub is_ready : ℕ → List ℕ → Bool
is_ready t dates = nat_le (first_date dates) t

-- the refills, the last of them moved to end just before the moment
abbrev pub last_moved : ℕ → List Refill → List Refill
last_moved moment [] = []
last_moved moment (last ∷ []) = record { begins = moment - last.amount; amount = last.amount } ∷ []
last_moved moment (first ∷ next ∷ others) = first ∷ last_moved moment (next ∷ others)

-- whether the dates end just before those that return
abbrev pub touches : List ℕ → List ℕ → Bool
touches dates returned = last_date dates + 1 == first_date returned

-- the dates followed by the returned ones. If these do not touch and no further refill fits, the
-- last refill first moves later until it touches them
abbrev pub rejoined : ℕ → List ℕ → List ℕ → List ℕ
rejoined max_refills dates returned =
    if touches dates returned || nat_lt (length (refills_of dates)) max_refills
    then dates ++ returned
    else dates_of (last_moved (first_date returned) (refills_of dates)) ++ returned

-- a charge of k: the first k dates are used and return a period later
abbrev pub charged : ℕ → ℕ → ℕ → List ℕ → List ℕ
charged k period max_refills dates = rejoined max_refills (drop k dates) (map (λ date. date + period) (take k dates))

-- a refill moved to end just before the next one, and joined with it
abbrev pub joined : Refill → Refill → Refill
joined head next = record { begins = next.begins - head.amount; amount = head.amount + next.amount }

-- while the head has fewer than `min_budget` ticks, it moves to the next refill and joins it
abbrev pub gathered : ℕ → Refill → List Refill → List Refill
gathered min_budget head [] = head ∷ []
gathered min_budget head (next ∷ others) =
    if nat_lt head.amount min_budget then gathered min_budget (joined head next) others else head ∷ next ∷ others

abbrev pub enough : ℕ → List Refill → List Refill
enough min_budget [] = []
enough min_budget (head ∷ others) = gathered min_budget head others

-- the dates with at least `min_budget` at the head, as far as refills can join
abbrev pub with_enough : ℕ → List ℕ → List ℕ
with_enough min_budget dates = dates_of (enough min_budget (refills_of dates))

-- a charge of k, followed by `with_enough`
abbrev pub charged_with_enough : ℕ → ℕ → ℕ → ℕ → List ℕ → List ℕ
charged_with_enough k min_budget period max_refills dates = with_enough min_budget (charged k period max_refills dates)

-- unblocking at t: the date in place i becomes the maximum of itself and t + i
abbrev pub unblocked : ℕ → List ℕ → List ℕ
unblocked t [] = []
unblocked t (date ∷ dates) = max date t ∷ unblocked (t + 1) dates

-- an order at t: the head begins at t or later and has at most the budget; the missing ticks become
-- one refill that ends a period after the head begins
abbrev pub reconfigured : ℕ → ℕ → ℕ → List ℕ → List ℕ
reconfigured t budget period dates =
    let begins = max (first_date dates) t in
    let amount = min (head_amount dates) budget in
    dates_from begins amount ++ dates_from (begins + period - (budget - amount)) (budget - amount)

-- a sporadic server: its dates, its period, its maximum number of refills, and its capacity
pub record Server : Type 0 where
  pub dates : List ℕ
  pub period : ℕ
  pub max_refills : ℕ
  pub room : ℕ

-- a new server, whose whole budget may be used from `at` on
abbrev pub new_server : ℕ → ℕ → ℕ → ℕ → ℕ → Server
new_server at budget period max_refills room =
    record { dates = dates_from at budget; period = period; max_refills = max_refills; room = room }

-- the server after a charge of k and `with_enough`
abbrev pub server_charged : ℕ → ℕ → Server → Server
server_charged k min_budget server =
    record server { dates = charged_with_enough k min_budget server.period server.max_refills server.dates }

-- the server after unblocking at t
abbrev pub server_unblocked : ℕ → Server → Server
server_unblocked t server = record server { dates = unblocked t server.dates }

-- the server after an order at t, which sets the budget, the period and the maximum number of
-- refills
abbrev pub server_reconfigured : ℕ → ℕ → ℕ → ℕ → Server → Server
server_reconfigured t budget period max_refills server =
    record server { dates = reconfigured t budget period server.dates; period = period; max_refills = max_refills }
