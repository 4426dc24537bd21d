-- Sequences of calls on a list of refills and the resulting lists: the definitions, evaluated. The
-- tests make the same calls.
use Rattle.std.specs.Prelude.{◌≡◌, ℕ, List, [], ◌∷◌, refl}
use Rattle.mcs_refills.specs.declared.refill.Refill.{Refill}
use Rattle.mcs_refills.specs.Server.{Server, refills_of, new_server, server_charged, server_unblocked, server_reconfigured}

data Call : Type 0 where
  Charge : ℕ → ℕ → Call
  Unblock : ℕ → Call
  Reorder : ℕ → ℕ → ℕ → ℕ → Call

abbrev called : Call → Server → Server
called (Charge ticks min_budget) server = server_charged ticks min_budget server
called (Unblock t) server = server_unblocked t server
called (Reorder t budget period max_refills) server = server_reconfigured t budget period max_refills server

abbrev after : Server → List Call → List Refill
after server [] = refills_of server.dates
after server (call ∷ calls) = after (called call server) calls

abbrev r : ℕ → ℕ → Refill
r begins amount = record { begins = begins; amount = amount }

a_new_list_is_one_refill : after (new_server 0 10 100 2 2) [] ≡ r 0 10 ∷ []
a_new_list_is_one_refill = refl

a_new_list_may_begin_late : after (new_server 1099511627776 3 5 2 2) [] ≡ r 1099511627776 3 ∷ []
a_new_list_may_begin_late = refl

charge_splits_the_head : after (new_server 0 10 100 2 2) (Charge 3 1 ∷ []) ≡ r 3 7 ∷ r 100 3 ∷ []
charge_splits_the_head = refl

unblock_moves_the_head : after (new_server 0 10 100 2 2) (Charge 3 1 ∷ Unblock 50 ∷ []) ≡ r 50 7 ∷ r 100 3 ∷ []
unblock_moves_the_head = refl

charge_keeps_the_order : after (new_server 0 10 100 2 2) (Charge 3 1 ∷ Unblock 50 ∷ Charge 7 1 ∷ []) ≡ r 100 3 ∷ r 150 7 ∷ []
charge_keeps_the_order = refl

tail_moves_when_full : after (new_server 0 10 100 2 2) (Charge 3 1 ∷ Unblock 50 ∷ Charge 2 1 ∷ []) ≡ r 52 5 ∷ r 147 5 ∷ []
tail_moves_when_full = refl

a_whole_head_leaves_first : after (new_server 0 10 100 2 2) (Charge 3 1 ∷ Unblock 50 ∷ Charge 2 1 ∷ Charge 5 1 ∷ []) ≡ r 147 10 ∷ []
a_whole_head_leaves_first = refl

the_whole_budget_returns : after (new_server 0 10 100 2 2) (Charge 10 1 ∷ []) ≡ r 100 10 ∷ []
the_whole_budget_returns = refl

a_return_joins_the_last : after (new_server 0 10 100 2 2) (Charge 3 1 ∷ Charge 7 1 ∷ []) ≡ r 100 10 ∷ []
a_return_joins_the_last = refl

tick_by_tick : after (new_server 0 4 9 2 2) (Charge 1 1 ∷ Charge 1 1 ∷ Charge 1 1 ∷ Charge 1 1 ∷ []) ≡ r 9 4 ∷ []
tick_by_tick = refl

a_third_refill_where_there_is_room : after (new_server 0 10 100 3 3) (Charge 3 1 ∷ Unblock 50 ∷ Charge 2 1 ∷ []) ≡ r 52 5 ∷ r 100 3 ∷ r 150 2 ∷ []
a_third_refill_where_there_is_room = refl

a_full_list_of_three : after (new_server 0 10 100 3 3) (Charge 3 1 ∷ Unblock 50 ∷ Charge 2 1 ∷ Unblock 60 ∷ Charge 1 1 ∷ []) ≡ r 61 4 ∷ r 100 3 ∷ r 158 3 ∷ []
a_full_list_of_three = refl

a_full_list_of_four : after (new_server 0 12 50 4 4) (Charge 2 1 ∷ Unblock 10 ∷ Charge 3 1 ∷ Unblock 20 ∷ Charge 1 1 ∷ Unblock 30 ∷ Charge 2 1 ∷ []) ≡ r 32 4 ∷ r 50 2 ∷ r 60 3 ∷ r 79 3 ∷ []
a_full_list_of_four = refl

the_last_of_three_moves_twice : after (new_server 0 10 100 3 3) (Charge 1 1 ∷ Unblock 20 ∷ Charge 1 1 ∷ Unblock 40 ∷ Charge 1 1 ∷ Unblock 60 ∷ Charge 1 1 ∷ []) ≡ r 61 6 ∷ r 100 1 ∷ r 158 3 ∷ []
the_last_of_three_moves_twice = refl

unblock_joins_overlapped_refills : after (new_server 0 10 12 2 2) (Charge 3 1 ∷ Unblock 6 ∷ []) ≡ r 6 10 ∷ []
unblock_joins_overlapped_refills = refl

unblock_stops_before_the_next : after (new_server 0 10 12 2 2) (Charge 3 1 ∷ Unblock 4 ∷ []) ≡ r 4 7 ∷ r 12 3 ∷ []
unblock_stops_before_the_next = refl

unblock_joins_what_it_touches : after (new_server 0 10 12 2 2) (Charge 3 1 ∷ Unblock 5 ∷ []) ≡ r 5 10 ∷ []
unblock_joins_what_it_touches = refl

unblock_before_the_head : after (new_server 0 10 12 2 2) (Charge 3 1 ∷ Unblock 2 ∷ []) ≡ r 3 7 ∷ r 12 3 ∷ []
unblock_before_the_head = refl

unblock_at_the_head : after (new_server 0 10 12 2 2) (Charge 3 1 ∷ Unblock 3 ∷ []) ≡ r 3 7 ∷ r 12 3 ∷ []
unblock_at_the_head = refl

unblock_past_all : after (new_server 0 10 100 3 3) (Charge 3 1 ∷ Unblock 50 ∷ Charge 2 1 ∷ Unblock 500 ∷ []) ≡ r 500 10 ∷ []
unblock_past_all = refl

unblock_joins_some : after (new_server 0 10 30 4 4) (Charge 2 1 ∷ Unblock 8 ∷ Charge 2 1 ∷ Unblock 18 ∷ Charge 2 1 ∷ Unblock 28 ∷ []) ≡ r 28 6 ∷ r 38 2 ∷ r 48 2 ∷ []
unblock_joins_some = refl

unblock_twice : after (new_server 0 10 100 2 2) (Charge 3 1 ∷ Unblock 50 ∷ Unblock 70 ∷ []) ≡ r 70 7 ∷ r 100 3 ∷ []
unblock_twice = refl

small_head_joins : after (new_server 0 10 100 2 2) (Charge 7 4 ∷ []) ≡ r 97 10 ∷ []
small_head_joins = refl

small_head_joins_twice : after (new_server 0 7 17 4 4) (Charge 1 4 ∷ Unblock 6 ∷ Charge 4 4 ∷ []) ≡ r 20 7 ∷ []
small_head_joins_twice = refl

enough_at_the_head : after (new_server 0 10 100 2 2) (Charge 6 4 ∷ []) ≡ r 6 4 ∷ r 100 6 ∷ []
enough_at_the_head = refl

a_small_head_alone_stays_small : after (new_server 0 10 100 3 3) (Charge 3 1 ∷ Charge 7 10 ∷ []) ≡ r 100 10 ∷ []
a_small_head_alone_stays_small = refl

small_head_after_a_full_list : after (new_server 0 10 100 2 2) (Charge 3 1 ∷ Unblock 50 ∷ Charge 4 5 ∷ []) ≡ r 144 10 ∷ []
small_head_after_a_full_list = refl

reconfigure_after_unblock : after (new_server 0 10 100 2 2) (Charge 3 1 ∷ Unblock 50 ∷ Reorder 60 12 40 2 ∷ []) ≡ r 60 7 ∷ r 95 5 ∷ []
reconfigure_after_unblock = refl

reconfigure_to_less_than_the_head : after (new_server 0 10 100 2 2) (Charge 3 1 ∷ Unblock 50 ∷ Reorder 60 4 40 2 ∷ []) ≡ r 60 4 ∷ []
reconfigure_to_less_than_the_head = refl

reconfigure_to_the_head : after (new_server 0 10 100 2 2) (Charge 3 1 ∷ Unblock 50 ∷ Reorder 60 7 40 2 ∷ []) ≡ r 60 7 ∷ []
reconfigure_to_the_head = refl

reconfigure_keeps_a_later_head : after (new_server 0 10 100 2 2) (Charge 10 1 ∷ Reorder 60 12 40 2 ∷ []) ≡ r 100 10 ∷ r 138 2 ∷ []
reconfigure_keeps_a_later_head = refl

reconfigure_drops_the_others : after (new_server 0 10 100 3 3) (Charge 3 1 ∷ Unblock 50 ∷ Charge 2 1 ∷ Reorder 52 10 100 3 ∷ []) ≡ r 52 5 ∷ r 147 5 ∷ []
reconfigure_drops_the_others = refl

reconfigure_to_more_refills : after (new_server 0 10 100 2 4) (Charge 3 1 ∷ Reorder 10 10 100 4 ∷ Charge 2 1 ∷ Unblock 40 ∷ Charge 1 1 ∷ Unblock 60 ∷ Charge 1 1 ∷ []) ≡ r 61 3 ∷ r 107 5 ∷ r 140 1 ∷ r 160 1 ∷ []
reconfigure_to_more_refills = refl

reconfigure_to_fewer_refills : after (new_server 0 10 100 4 4) (Charge 2 1 ∷ Unblock 20 ∷ Charge 2 1 ∷ Unblock 40 ∷ Charge 2 1 ∷ Reorder 50 10 100 2 ∷ Charge 1 1 ∷ []) ≡ r 51 3 ∷ r 144 7 ∷ []
reconfigure_to_fewer_refills = refl

reconfigure_twice : after (new_server 0 10 100 2 2) (Charge 3 1 ∷ Reorder 5 4 50 2 ∷ Reorder 9 8 20 2 ∷ []) ≡ r 9 4 ∷ r 25 4 ∷ []
reconfigure_twice = refl

charge_after_a_shorter_period : after (new_server 0 10 100 2 2) (Charge 3 1 ∷ Reorder 10 9 20 2 ∷ Charge 4 1 ∷ []) ≡ r 14 3 ∷ r 28 6 ∷ []
charge_after_a_shorter_period = refl

latest_charge : after (new_server 1099511627776 3 1099511627776 2 2) (Charge 3 1 ∷ []) ≡ r 2199023255552 3 ∷ []
latest_charge = refl

latest_order : after (new_server 1099511627776 3 1099511627776 2 2) (Charge 1 1 ∷ Reorder 1099511627776 2 1099511627776 2 ∷ []) ≡ r 1099511627777 2 ∷ []
latest_order = refl

order_past_the_latest_charge : after (new_server 1099511627776 3 1099511627776 2 2) (Charge 3 1 ∷ Reorder 1099511627776 5 1099511627776 2 ∷ []) ≡ r 2199023255552 3 ∷ r 3298534883326 2 ∷ []
order_past_the_latest_charge = refl
