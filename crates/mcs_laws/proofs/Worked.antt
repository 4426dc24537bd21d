-- Values worked by hand, on both sides of the edge at which a law would fail if it said a little
-- more.
use Rattle.std.specs.Prelude.{◌≡◌, ℕ, List, [], ◌∷◌, Option, Some, option_map, map, refl}
use Rattle.mcs_ticks.specs.Queue.{Discipline, by_priority, in_one_list}
use Rattle.mcs_control.specs.declared.config.Config.{Config}
use Rattle.mcs_control.specs.declared.config.Order.{Order}
use Rattle.mcs_control.specs.Context.{head_moment, head_amount}
use Rattle.mcs_script.specs.declared.item.Item.{Item}
use Rattle.mcs_script.specs.declared.item.Item.TheVariants.{Compute, Signal, Wait}
use Rattle.mcs_control.specs.declared.config.Mode.{Mode}
use Rattle.mcs_control.specs.declared.config.Mode.TheVariants as mode
use Rattle.mcs_system.specs.declared.part.ContextPart.{ContextPart}
use Rattle.mcs_system.specs.declared.part.ThreadPart.{ThreadPart}
use Rattle.mcs_system.specs.System.{System}
use Rattle.mcs_core.specs.Clock.{core_at, clock_with, turn_of}
use Rattle.mcs_laws.specs.Changes.{Change, taken_by}
use Rattle.mcs_laws.specs.Changes.Change.{Charged, Ordered}
use Rattle.mcs_laws.specs.Demand.{periods_begun, ticks_run, demand_of, demand_over, demand_since, config_from, head_from, IsUnorderedOver}
use Rattle.mcs_laws.specs.Histories.{home_before, context_before, charges_at, opening_context, orders_within}
use Rattle.mcs_laws.specs.InForce.{config_in_force}
use Rattle.mcs_laws.specs.Places.{places}

-- periods of 5 begin at 0, 5, 10 ..
none : periods_begun 0 5 ≡ 0
none = refl

at_once : periods_begun 1 5 ≡ 1
at_once = refl

before_the_second : periods_begun 5 5 ≡ 1
before_the_second = refl

the_second : periods_begun 6 5 ≡ 2
the_second = refl

before_the_third : periods_begun 10 5 ≡ 2
before_the_third = refl

at_each_tick : periods_begun 7 1 ≡ 7
at_each_tick = refl

abbrev context : ℕ → ℕ → ContextPart
context budget period = record { name = []; core = 0; config = record { budget = budget; period = period; extra = 0 }; mode = mode.Sporadic }

abbrev thread : ℕ → ℕ → List Item → ThreadPart
thread context priority script = record { name = []; context = context; priority = priority; start = 0; rounds = 1; deadline = 0; script = script }

abbrev one_core : List ContextPart → List ThreadPart → System
one_core contexts threads =
    record { cores = 1; delay = 1; call = 1; min_budget = 1; contexts = contexts; notes = record { name = []; core = 0; word = 0 } ∷ []; threads = threads; orders = []; links = []; servers = 0; sources = []; beats = []; chains = [] }

-- budget 2 of 5 for five ticks of work
abbrev depletes : System
depletes = one_core (context 2 5 ∷ []) (thread 0 5 (Compute 5 ∷ []) ∷ [])

-- a thread that waits for a date has one place, and its date is the head itself
waits_in_one_place : places 0 (home_before depletes 0 3) ≡ 1
waits_in_one_place = refl

waits_for_the_head : map (λ dated. dated.date) (home_before depletes 0 3).releases ≡ head_moment (context_before depletes 0 3) ∷ []
waits_for_the_head = refl

-- its first tick from the head on begins at the head, and its stop tells as many ticks as the head had
runs_from_the_head : (option_map (λ chosen. chosen.using) (home_before depletes 0 6).running ≡ Some 0) × (head_moment (context_before depletes 0 6) ≡ 5)
runs_from_the_head = (refl, refl)

is_charged_the_head : (charges_at depletes 0 7 ≡ 2 ∷ []) × (head_amount (context_before depletes 0 7) ≡ 2)
is_charged_the_head = (refl, refl)

-- it runs all that it may
runs_four_ticks : ticks_run depletes 0 10 ≡ demand_of depletes 0 10
runs_four_ticks = refl

-- an order from 1 of 10 to 4 of 10 gives dates that come sooner than a period after the first one
abbrev seldom : System
seldom = one_core (context 1 10 ∷ []) (thread 0 5 (Compute 20 ∷ []) ∷ [])

abbrev raised : List Change
raised = Ordered (record { moment = 0; context = 0; config = record { budget = 4; period = 10; extra = 0 } }) ∷ Charged 1 ∷ Charged 3 ∷ []

an_order_spaces_less : taken_by 1 raised (opening_context seldom 0) ≡ 0 ∷ 7 ∷ 8 ∷ 9 ∷ []
an_order_spaces_less = refl

without_it_a_period_passes : taken_by 1 (Charged 1 ∷ Charged 1 ∷ []) (opening_context seldom 0) ≡ 0 ∷ 10 ∷ []
without_it_a_period_passes = refl

-- two threads of one priority, and one above them that is woken and preempts the one that runs
abbrev preempted : System
preempted =
    one_core
    (context 9 50 ∷ context 9 50 ∷ context 9 50 ∷ [])
    (thread 0 5 (Compute 1 ∷ Signal 0 1 ∷ Compute 2 ∷ []) ∷ thread 1 5 (Compute 2 ∷ []) ∷ thread 2 9 (Wait 0 ∷ Compute 1 ∷ []) ∷ [])

-- a list in order of entering into which a preempted thread enters at the back
abbrev at_the_back : Discipline
at_the_back = record in_one_list { front = in_one_list.back }

-- who runs before moment 6, when the woken thread has ended
abbrev runs_by : Discipline → Option ℕ
runs_by discipline = option_map (λ chosen. chosen.thread) (core_at preempted (clock_with discipline preempted 6).world 0).running

the_preempted_thread_goes_on : runs_by in_one_list ≡ runs_by by_priority
the_preempted_thread_goes_on = refl

at_the_back_it_would_not : (runs_by by_priority ≡ Some 0) × (runs_by at_the_back ≡ Some 1)
at_the_back_it_would_not = (refl, refl)

-- A context of 10 in 100. The file first orders 4 in 20 for it from moment 9 on, and then, within
-- moment 4, 6 in 50 and 8 in 40.
abbrev config : ℕ → ℕ → Config
config budget period = record { budget = budget; period = period; extra = 0 }

abbrev order : ℕ → ℕ → Config → Order
order moment context config = record { moment = moment; context = context; config = config }

abbrev ordered : System
ordered =
    record {
      cores = 1;
      delay = 1;
      call = 1;
      min_budget = 1;
      contexts = record { name = []; core = 0; config = config 10 100; mode = mode.Sporadic } ∷ record { name = []; core = 0; config = config 5 30; mode = mode.Sporadic } ∷ [];
      notes = [];
      threads = [];
      orders = order 9 0 (config 4 20) ∷ order 4 0 (config 6 50) ∷ order 2 1 (config 3 30) ∷ order 4 0 (config 8 40) ∷ [];
      links = [];
      servers = 0;
      sources = [];
      beats = [];
      chains = [];
    }

-- up to the moment of an order its turn is still to come
as_in_the_file : config_in_force ordered 0 4 ≡ config 10 100
as_in_the_file = refl

the_second_of_one_moment : config_in_force ordered 0 5 ≡ config 8 40
the_second_of_one_moment = refl

until_the_next : config_in_force ordered 0 9 ≡ config 8 40
until_the_next = refl

the_latest_and_not_the_last_of_the_file : config_in_force ordered 0 10 ≡ config 4 20
the_latest_and_not_the_last_of_the_file = refl

of_the_other_context : config_in_force ordered 1 10 ≡ config 3 30
of_the_other_context = refl

-- A thread of budget 4 in 10 that a better one keeps from running until 6: a sporadic context then gives it twice its budget without a
-- break, and in bandwidth mode it runs for 4 ticks of these 8.
abbrev kept_waiting : Mode → System
kept_waiting how =
    one_core (record { name = []; core = 0; config = record { budget = 4; period = 10; extra = 0 }; mode = how } ∷ context 6 20 ∷ []) (thread 0 5 (Compute 20 ∷ []) ∷ thread 1 9 (Compute 6 ∷ []) ∷ [])

sporadic_runs_two_budgets : ticks_run (kept_waiting mode.Sporadic) 0 6 ∷ ticks_run (kept_waiting mode.Sporadic) 0 14 ∷ [] ≡ 0 ∷ 8 ∷ []
sporadic_runs_two_budgets = refl

bandwidth_runs_one : ticks_run (kept_waiting mode.Bandwidth) 0 6 ∷ ticks_run (kept_waiting mode.Bandwidth) 0 14 ∷ [] ≡ 0 ∷ 4 ∷ []
bandwidth_runs_one = refl

-- the bound is met, and a tick more would be too much for a stretch of a period and a tick
bandwidth_runs_again : ticks_run (kept_waiting mode.Bandwidth) 0 16 ∷ ticks_run (kept_waiting mode.Bandwidth) 0 17 ∷ [] ≡ 4 ∷ 5 ∷ []
bandwidth_runs_again = refl

-- the demand of a stretch counts from the head's date, which is 0 here: the sporadic context reaches it in 8 ticks from 6 on
the_head_is_late : head_from (kept_waiting mode.Sporadic) 0 6 ≡ 0
the_head_is_late = refl

two_budgets_are_its_demand : demand_over (kept_waiting mode.Sporadic) 0 6 8 ≡ 8
two_budgets_are_its_demand = refl

-- Budget 1 in 5, and 3 in 5 from 10 on: it runs in ticks 0, 5 | 10, 13, 14, 15, 18, 19.
abbrev more_from_ten : System
more_from_ten = record (one_core (context 1 5 ∷ []) (thread 0 5 (Compute 50 ∷ []) ∷ [])) { orders = order 10 0 (config 3 5) ∷ [] }

runs_more_after_the_order : ticks_run more_from_ten 0 10 ∷ ticks_run more_from_ten 0 20 ∷ [] ≡ 2 ∷ 8 ∷ []
runs_more_after_the_order = refl

-- before and after the order it runs all that the budget in force lets it run
no_order_within_ten : IsUnorderedOver more_from_ten 0 0 10
no_order_within_ten = refl

two_ticks_before_the_order : demand_over more_from_ten 0 0 10 ≡ 2
two_ticks_before_the_order = refl

no_order_after_ten : IsUnorderedOver more_from_ten 0 10 10
no_order_after_ten = refl

six_ticks_after_the_order : demand_since more_from_ten 0 10 10 ∷ demand_over more_from_ten 0 10 10 ∷ [] ≡ 6 ∷ 6 ∷ []
six_ticks_after_the_order = refl

-- over both, and by the budget in the file, it would run 4 ticks at most
the_order_is_within_eleven : orders_within more_from_ten 0 1 10 ≡ order 10 0 (config 3 5) ∷ []
the_order_is_within_eleven = refl

four_ticks_by_the_file : demand_of more_from_ten 0 20 ≡ 4
four_ticks_by_the_file = refl

-- In bandwidth mode, budget 4 in 10, and 4 in 5 from 3 on: it runs in ticks 0, 1, 2 | 3, 5, 6, 7, 8.
abbrev sooner_from_three : System
sooner_from_three =
    record (one_core (record { name = []; core = 0; config = config 4 10; mode = mode.Bandwidth } ∷ []) (thread 0 5 (Compute 50 ∷ []) ∷ [])) {
      orders = order 3 0 (config 4 5) ∷ [];
    }

-- the five ticks from the order on have a budget, and as many more come one tick later
a_budget_from_the_order_on : ticks_run sooner_from_three 0 3 ∷ ticks_run sooner_from_three 0 8 ∷ ticks_run sooner_from_three 0 9 ∷ [] ≡ 3 ∷ 7 ∷ 8 ∷ []
a_budget_from_the_order_on = refl

no_order_after_three : IsUnorderedOver sooner_from_three 0 3 5
no_order_after_three = refl

in_force_from_the_order_on : config_from sooner_from_three 0 3 ≡ config 4 5
in_force_from_the_order_on = refl

-- nine ticks are within the first period, and have two budgets: an order comes within them
in_force_at_first : config_from sooner_from_three 0 0 ≡ config 4 10
in_force_at_first = refl

the_order_is_within_nine : orders_within sooner_from_three 0 1 8 ≡ order 3 0 (config 4 5) ∷ []
the_order_is_within_nine = refl

-- Two cores whose notifications are both on core 1: the thread of core 0 signals both of them, and that of core 1 signals at home.
abbrev signals_away : System
signals_away =
    record {
      cores = 2;
      delay = 3;
      call = 1;
      min_budget = 1;
      contexts = context 9 50 ∷ record { name = []; core = 1; config = config 9 50; mode = mode.Sporadic } ∷ [];
      notes = record { name = []; core = 1; word = 0 } ∷ record { name = []; core = 1; word = 0 } ∷ [];
      threads = thread 0 5 (Signal 1 7 ∷ Compute 1 ∷ Signal 0 4 ∷ []) ∷ thread 1 5 (Signal 0 2 ∷ []) ∷ [];
      orders = [];
      links = [];
      servers = 0;
      sources = [];
      beats = [];
      chains = [];
    }

-- the badges of the signals that a core makes for the other one at moments 0 to 3
abbrev badges_of : ℕ → List (List ℕ)
badges_of core = map (λ t. map (λ mail. mail.badge) (turn_of signals_away core t).mails) (0 ∷ 1 ∷ 2 ∷ 3 ∷ [])

-- an item makes its signal when it ends, and at no other moment
says_its_items : badges_of 0 ≡ [] ∷ (7 ∷ []) ∷ [] ∷ (4 ∷ []) ∷ []
says_its_items = refl

-- a signal at home is an item too, and goes to no other core
says_nothing_at_home : badges_of 1 ≡ [] ∷ [] ∷ [] ∷ [] ∷ []
says_nothing_at_home = refl
