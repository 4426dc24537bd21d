-- The definitions at worked values, each way of each choice once.
use Rattle.std.specs.Prelude.{◌≡◌, ℕ, ◌<◌, ◌≤◌, true, false, List, [], ◌∷◌, refl}
use native.Mathlib.Omega.{arith}
use Rattle.mcs_refills.specs.declared.refill.Refill.{Refill}
use Rattle.mcs_refills.specs.Server.{dates_of, refills_of, is_ready, charged, with_enough, unblocked, reconfigured}
use Rattle.mcs_refills.specs.Slice.{slice_charged, slice_reconfigured, times_used_up, left_after_all}
use Rattle.mcs_refills.specs.laws.Apart.{AreApart, HaveBudget, total_amount, last_end}
use Rattle.mcs_refills.specs.laws.Spacing.{consumed}
use Rattle.mcs_refills.specs.laws.Spacing.Step.{Charge, Unblock}

abbrev r : ℕ → ℕ → Refill
r begins amount = record { begins = begins; amount = amount }

-- the refills after a charge, with enough at the head
abbrev charge : ℕ → ℕ → ℕ → ℕ → List Refill → List Refill
charge k min_budget period max_refills rs = refills_of (with_enough min_budget (charged k period max_refills (dates_of rs)))

abbrev unblock : ℕ → List Refill → List Refill
unblock t rs = refills_of (unblocked t (dates_of rs))

abbrev order : ℕ → ℕ → ℕ → List Refill → List Refill
order t budget period rs = refills_of (reconfigured t budget period (dates_of rs))

-- dates and refills
consecutive_dates_are_one_refill : refills_of (3 ∷ 4 ∷ 5 ∷ []) ≡ r 3 3 ∷ []
consecutive_dates_are_one_refill = refl

a_gap_parts_two_refills : refills_of (3 ∷ 4 ∷ 6 ∷ []) ≡ r 3 2 ∷ r 6 1 ∷ []
a_gap_parts_two_refills = refl

refills_have_a_date_for_each_tick : dates_of (r 3 2 ∷ r 6 1 ∷ []) ≡ 3 ∷ 4 ∷ 6 ∷ []
refills_have_a_date_for_each_tick = refl

ready_at_the_head : is_ready 50 (dates_of (r 50 7 ∷ r 100 3 ∷ [])) ≡ true
ready_at_the_head = refl

not_ready_before_the_head : is_ready 49 (dates_of (r 50 7 ∷ r 100 3 ∷ [])) ≡ false
not_ready_before_the_head = refl

-- a charge
charge_splits_the_head : charge 3 1 100 2 (r 0 10 ∷ []) ≡ r 3 7 ∷ r 100 3 ∷ []
charge_splits_the_head = refl

charge_keeps_the_order : charge 7 1 100 2 (r 50 7 ∷ r 100 3 ∷ []) ≡ r 100 3 ∷ r 150 7 ∷ []
charge_keeps_the_order = refl

tail_moves_when_full : charge 2 1 100 2 (r 50 7 ∷ r 100 3 ∷ []) ≡ r 52 5 ∷ r 147 5 ∷ []
tail_moves_when_full = refl

return_joins_the_last_refill : charge 5 1 100 2 (r 52 5 ∷ r 147 5 ∷ []) ≡ r 147 10 ∷ []
return_joins_the_last_refill = refl

return_is_a_refill_where_there_is_room : charge 2 1 100 3 (r 50 7 ∷ r 100 3 ∷ []) ≡ r 52 5 ∷ r 100 3 ∷ r 150 2 ∷ []
return_is_a_refill_where_there_is_room = refl

the_whole_budget_returns : charge 10 1 100 2 (r 0 10 ∷ []) ≡ r 100 10 ∷ []
the_whole_budget_returns = refl

hundreds_of_ticks_return : charge 700 4 100000 2 (r 0 1000 ∷ []) ≡ r 700 300 ∷ r 100000 700 ∷ []
hundreds_of_ticks_return = refl

-- enough at the head
small_head_joins : charge 7 4 100 2 (r 0 10 ∷ []) ≡ r 97 10 ∷ []
small_head_joins = refl

small_head_joins_twice : refills_of (with_enough 4 (0 ∷ 1 ∷ 10 ∷ 12 ∷ 20 ∷ 21 ∷ 22 ∷ [])) ≡ r 9 4 ∷ r 20 3 ∷ []
small_head_joins_twice = refl

enough_at_the_head_stays : refills_of (with_enough 4 (0 ∷ 1 ∷ 2 ∷ 3 ∷ 10 ∷ [])) ≡ r 0 4 ∷ r 10 1 ∷ []
enough_at_the_head_stays = refl

small_head_alone_stays : refills_of (with_enough 4 (5 ∷ 6 ∷ [])) ≡ r 5 2 ∷ []
small_head_alone_stays = refl

-- unblocking
unblock_moves_the_head : unblock 50 (r 3 7 ∷ r 100 3 ∷ []) ≡ r 50 7 ∷ r 100 3 ∷ []
unblock_moves_the_head = refl

unblock_joins_overlapped_refills : unblock 6 (r 3 7 ∷ r 12 3 ∷ []) ≡ r 6 10 ∷ []
unblock_joins_overlapped_refills = refl

unblock_stops_before_the_next_refill : unblock 4 (r 3 7 ∷ r 12 3 ∷ []) ≡ r 4 7 ∷ r 12 3 ∷ []
unblock_stops_before_the_next_refill = refl

unblock_before_the_head_changes_nothing : unblock 2 (r 3 7 ∷ r 12 3 ∷ []) ≡ r 3 7 ∷ r 12 3 ∷ []
unblock_before_the_head_changes_nothing = refl

-- an order
reconfigure_after_unblock : order 60 12 40 (r 50 7 ∷ r 100 3 ∷ []) ≡ r 60 7 ∷ r 95 5 ∷ []
reconfigure_after_unblock = refl

reconfigure_to_less_than_the_head : order 60 4 40 (r 50 7 ∷ r 100 3 ∷ []) ≡ r 60 4 ∷ []
reconfigure_to_less_than_the_head = refl

reconfigure_keeps_a_later_head : order 60 12 40 (r 100 10 ∷ []) ≡ r 100 10 ∷ r 138 2 ∷ []
reconfigure_keeps_a_later_head = refl

-- slices
slice_charged_in_part : slice_charged 2 5 5 ≡ 3
slice_charged_in_part = refl

slice_is_full_again : slice_charged 3 5 3 ≡ 5
slice_is_full_again = refl

order_to_less_than_is_left : slice_reconfigured 2 3 ≡ 2
order_to_less_than_is_left = refl

order_to_more_than_is_left : slice_reconfigured 9 3 ≡ 3
order_to_more_than_is_left = refl

-- the dates in use: the eleventh is a period after the first
dates_in_use : consumed 100 2 (Charge 3 1 ∷ Unblock 50 ∷ Charge 7 1 ∷ Charge 2 1 ∷ []) (dates_of (r 0 10 ∷ [])) ≡ 0 ∷ 1 ∷ 2 ∷ 50 ∷ 51 ∷ 52 ∷ 53 ∷ 54 ∷ 55 ∷ 56 ∷ 100 ∷ 101 ∷ []
dates_in_use = refl

-- a slice of 3 is used up by 1 and 2, and again by 3; of the third one 2 are used
slices_used_up : times_used_up (1 ∷ 2 ∷ 3 ∷ 2 ∷ []) 3 3 ≡ 2
slices_used_up = refl

left_of_the_last_slice : left_after_all (1 ∷ 2 ∷ 3 ∷ 2 ∷ []) 3 3 ≡ 1
left_of_the_last_slice = refl

-- refills apart: 7 ticks from 3 to 10, and 3 from 100 to 103
amounts_sum : total_amount (r 3 7 ∷ r 100 3 ∷ []) ≡ 10
amounts_sum = refl

last_refill_ends : last_end (r 3 7 ∷ r 100 3 ∷ []) ≡ 103
last_refill_ends = refl

apart_is_a_gap : AreApart (r 3 7 ∷ r 100 3 ∷ []) ≡ ((1 ≤ 7) × (10 < 100) × ((1 ≤ 3) × Unit {0} × Unit {0}))
apart_is_a_gap = refl

-- 7 ticks from 3 on end at 10, when the next refill begins
touching_refills_are_not_apart : AreApart (r 3 7 ∷ r 10 3 ∷ []) → ⊥
touching_refills_are_not_apart h = omega (arith, h.1)

-- and past 9
overlapping_refills_are_not_apart : AreApart (r 3 7 ∷ r 9 3 ∷ []) → ⊥
overlapping_refills_are_not_apart h = omega (arith, h.1)

-- they span 100 ticks: from 3 to 103
budget_of_10_in_100 : HaveBudget 10 100 2 (r 3 7 ∷ r 100 3 ∷ [])
budget_of_10_in_100 = record { apart = (omega arith, omega arith, (omega arith, tt, tt)); all = refl; few = omega arith; short = omega arith }

-- which is more than a period of 99
too_long_for_99 : HaveBudget 10 99 2 (r 3 7 ∷ r 100 3 ∷ []) → ⊥
too_long_for_99 h = omega (arith, h.short)
