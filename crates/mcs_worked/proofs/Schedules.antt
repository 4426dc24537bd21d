-- Written by checks/proofs/theorems.py from crates/mcs_corpus/data/examples and crates/mcs_corpus/data/worked: schedules of systems, each by computing.
use Rattle.std.specs.Prelude.{◌≡◌, List, [], ◌∷◌, Some, None, refl, codes}
use Rattle.mcs_ticks.specs.declared.row.Row.{Row}
use Rattle.mcs_ticks.specs.declared.row.What.TheVariants as row
use Rattle.mcs_ticks.specs.declared.row.Why.TheVariants as why
use Rattle.mcs_script.specs.declared.item.Item.TheVariants.{Compute, Signal, Wait, Yield}
use Rattle.mcs_system.specs.System.{System}
use Rattle.mcs_core.specs.Clock.{schedule}
use Rattle.mcs_worked.specs.Parts.{context, bandwidth_context, note, thread, order, link, at}

abbrev pub arrival_before_order_before_release_system : System
arrival_before_order_before_release_system = record {
  cores = 2;
  delay = 2;
  call = 1;
  min_budget = 1;
  contexts =
      context (codes "w") 0 3 20 0
      ∷ context (codes "a") 0 3 10 0
      ∷ context (codes "r") 0 2 10 0
      ∷ context (codes "s") 1 5 10 0
      ∷ [];
  notes =
      note (codes "n") 0
      ∷ [];
  threads =
      thread (codes "W") 0 7 0 1 0 ((Wait 0) ∷ (Compute 1) ∷ [])
      ∷ thread (codes "A") 1 5 0 1 0 ((Compute 9) ∷ [])
      ∷ thread (codes "R") 2 5 4 1 0 ((Compute 1) ∷ [])
      ∷ thread (codes "S") 3 5 0 1 0 ((Compute 1) ∷ (Signal 0 5) ∷ [])
      ∷ [];
  orders =
      order 4 1 2 8 0
      ∷ [];
  links = [];
  servers = 0;
  sources = [];
  beats = [];
  chains = [];
}

abbrev pub arrival_before_order_before_release_rows : List Row
arrival_before_order_before_release_rows =
    at 0 0 (row.Release 0)
    ∷ at 0 0 (row.Release 1)
    ∷ at 0 0 (row.Run 0)
    ∷ at 0 1 (row.Release 3)
    ∷ at 0 1 (row.Run 3)
    ∷ at 1 0 (row.Stop 0 why.Wait 1 None)
    ∷ at 1 0 (row.Run 1)
    ∷ at 2 1 (row.Signal 3 0 5)
    ∷ at 2 1 (row.Round 3 1 2)
    ∷ at 2 1 (row.Stop 3 why.Done 2 None)
    ∷ at 4 0 (row.Stop 1 why.Spent 3 (Some 10))
    ∷ at 4 0 (row.Arrive 0 5 1)
    ∷ at 4 0 (row.Wake 0 0 5 None)
    ∷ at 4 0 (row.Order 1)
    ∷ at 4 0 (row.Release 2)
    ∷ at 4 0 (row.Run 0)
    ∷ []

arrival_before_order_before_release : schedule arrival_before_order_before_release_system 4 ≡ arrival_before_order_before_release_rows
arrival_before_order_before_release = refl

abbrev pub bandwidth_keeps_to_one_budget_system : System
bandwidth_keeps_to_one_budget_system = record {
  cores = 1;
  delay = 1;
  call = 1;
  min_budget = 1;
  contexts =
      bandwidth_context (codes "loop") 0 4 10 0
      ∷ context (codes "burst") 0 6 20 0
      ∷ [];
  notes = [];
  threads =
      thread (codes "Loop") 0 5 0 1 0 ((Compute 20) ∷ [])
      ∷ thread (codes "Burst") 1 9 0 1 0 ((Compute 6) ∷ [])
      ∷ [];
  orders = [];
  links = [];
  servers = 0;
  sources = [];
  beats = [];
  chains = [];
}

abbrev pub bandwidth_keeps_to_one_budget_rows : List Row
bandwidth_keeps_to_one_budget_rows =
    at 0 0 (row.Release 0)
    ∷ at 0 0 (row.Release 1)
    ∷ at 0 0 (row.Run 1)
    ∷ at 6 0 (row.Round 1 1 6)
    ∷ at 6 0 (row.Stop 1 why.Done 6 None)
    ∷ at 6 0 (row.Run 0)
    ∷ at 10 0 (row.Stop 0 why.Spent 4 (Some 16))
    ∷ at 16 0 (row.Release 0)
    ∷ at 16 0 (row.Run 0)
    ∷ at 20 0 (row.Stop 0 why.Spent 4 (Some 26))
    ∷ []

bandwidth_keeps_to_one_budget : schedule bandwidth_keeps_to_one_budget_system 20 ≡ bandwidth_keeps_to_one_budget_rows
bandwidth_keeps_to_one_budget = refl

abbrev pub bandwidth_unblocks_when_chosen_system : System
bandwidth_unblocks_when_chosen_system = record {
  cores = 1;
  delay = 1;
  call = 1;
  min_budget = 1;
  contexts =
      bandwidth_context (codes "a") 0 4 10 0
      ∷ context (codes "b") 0 3 20 0
      ∷ [];
  notes = [];
  threads =
      thread (codes "A") 0 5 0 1 0 ((Compute 20) ∷ [])
      ∷ thread (codes "B") 1 9 0 1 0 ((Compute 3) ∷ [])
      ∷ [];
  orders = [];
  links = [];
  servers = 0;
  sources = [];
  beats = [];
  chains = [];
}

abbrev pub bandwidth_unblocks_when_chosen_rows : List Row
bandwidth_unblocks_when_chosen_rows =
    at 0 0 (row.Release 0)
    ∷ at 0 0 (row.Release 1)
    ∷ at 0 0 (row.Run 1)
    ∷ at 3 0 (row.Round 1 1 3)
    ∷ at 3 0 (row.Stop 1 why.Done 3 None)
    ∷ at 3 0 (row.Run 0)
    ∷ at 7 0 (row.Stop 0 why.Spent 4 (Some 13))
    ∷ at 13 0 (row.Release 0)
    ∷ at 13 0 (row.Run 0)
    ∷ []

bandwidth_unblocks_when_chosen : schedule bandwidth_unblocks_when_chosen_system 13 ≡ bandwidth_unblocks_when_chosen_rows
bandwidth_unblocks_when_chosen = refl

abbrev pub call_costs_ticks_system : System
call_costs_ticks_system = record {
  cores = 1;
  delay = 1;
  call = 3;
  min_budget = 1;
  contexts =
      context (codes "a") 0 5 10 0
      ∷ [];
  notes =
      note (codes "n") 0
      ∷ [];
  threads =
      thread (codes "A") 0 5 0 1 0 ((Signal 0 1) ∷ [])
      ∷ [];
  orders = [];
  links = [];
  servers = 0;
  sources = [];
  beats = [];
  chains = [];
}

abbrev pub call_costs_ticks_rows : List Row
call_costs_ticks_rows =
    at 0 0 (row.Release 0)
    ∷ at 0 0 (row.Run 0)
    ∷ at 3 0 (row.Signal 0 0 1)
    ∷ at 3 0 (row.Hold 0 1)
    ∷ at 3 0 (row.Round 0 1 3)
    ∷ at 3 0 (row.Stop 0 why.Done 3 None)
    ∷ []

call_costs_ticks : schedule call_costs_ticks_system 4 ≡ call_costs_ticks_rows
call_costs_ticks = refl

abbrev pub delivery_in_order_of_cores_system : System
delivery_in_order_of_cores_system = record {
  cores = 3;
  delay = 2;
  call = 1;
  min_budget = 1;
  contexts =
      context (codes "s") 0 5 10 0
      ∷ context (codes "t") 1 5 10 0
      ∷ context (codes "w") 2 5 10 0
      ∷ [];
  notes =
      note (codes "n") 2
      ∷ [];
  threads =
      thread (codes "S") 0 5 0 1 0 ((Compute 1) ∷ (Signal 0 1) ∷ [])
      ∷ thread (codes "T") 1 5 0 1 0 ((Compute 1) ∷ (Signal 0 2) ∷ [])
      ∷ thread (codes "W") 2 5 0 1 0 ((Wait 0) ∷ (Compute 1) ∷ [])
      ∷ [];
  orders = [];
  links = [];
  servers = 0;
  sources = [];
  beats = [];
  chains = [];
}

abbrev pub delivery_in_order_of_cores_rows : List Row
delivery_in_order_of_cores_rows =
    at 0 0 (row.Release 0)
    ∷ at 0 0 (row.Run 0)
    ∷ at 0 1 (row.Release 1)
    ∷ at 0 1 (row.Run 1)
    ∷ at 0 2 (row.Release 2)
    ∷ at 0 2 (row.Run 2)
    ∷ at 1 2 (row.Stop 2 why.Wait 1 None)
    ∷ at 2 0 (row.Signal 0 0 1)
    ∷ at 2 0 (row.Round 0 1 2)
    ∷ at 2 0 (row.Stop 0 why.Done 2 None)
    ∷ at 2 1 (row.Signal 1 0 2)
    ∷ at 2 1 (row.Round 1 1 2)
    ∷ at 2 1 (row.Stop 1 why.Done 2 None)
    ∷ at 4 2 (row.Arrive 0 1 0)
    ∷ at 4 2 (row.Wake 2 0 1 None)
    ∷ at 4 2 (row.Arrive 0 2 1)
    ∷ at 4 2 (row.Hold 0 2)
    ∷ at 4 2 (row.Run 2)
    ∷ []

delivery_in_order_of_cores : schedule delivery_in_order_of_cores_system 4 ≡ delivery_in_order_of_cores_rows
delivery_in_order_of_cores = refl

abbrev pub delivery_in_order_of_making_system : System
delivery_in_order_of_making_system = record {
  cores = 2;
  delay = 3;
  call = 1;
  min_budget = 1;
  contexts =
      context (codes "s") 1 5 10 0
      ∷ [];
  notes =
      note (codes "n") 0
      ∷ [];
  threads =
      thread (codes "S") 0 5 0 1 0 ((Compute 1) ∷ (Signal 0 1) ∷ (Signal 0 2) ∷ (Signal 0 4) ∷ [])
      ∷ [];
  orders = [];
  links = [];
  servers = 0;
  sources = [];
  beats = [];
  chains = [];
}

abbrev pub delivery_in_order_of_making_rows : List Row
delivery_in_order_of_making_rows =
    at 0 1 (row.Release 0)
    ∷ at 0 1 (row.Run 0)
    ∷ at 2 1 (row.Signal 0 0 1)
    ∷ at 3 1 (row.Signal 0 0 2)
    ∷ at 4 1 (row.Signal 0 0 4)
    ∷ at 4 1 (row.Round 0 1 4)
    ∷ at 4 1 (row.Stop 0 why.Done 4 None)
    ∷ at 5 0 (row.Arrive 0 1 1)
    ∷ at 5 0 (row.Hold 0 1)
    ∷ at 6 0 (row.Arrive 0 2 1)
    ∷ at 6 0 (row.Hold 0 3)
    ∷ at 7 0 (row.Arrive 0 4 1)
    ∷ at 7 0 (row.Hold 0 7)
    ∷ []

delivery_in_order_of_making : schedule delivery_in_order_of_making_system 7 ≡ delivery_in_order_of_making_rows
delivery_in_order_of_making = refl

abbrev pub depletes_and_refills_system : System
depletes_and_refills_system = record {
  cores = 1;
  delay = 1;
  call = 1;
  min_budget = 1;
  contexts =
      context (codes "a") 0 2 5 0
      ∷ [];
  notes = [];
  threads =
      thread (codes "A") 0 5 0 1 0 ((Compute 5) ∷ [])
      ∷ [];
  orders = [];
  links = [];
  servers = 0;
  sources = [];
  beats = [];
  chains = [];
}

abbrev pub depletes_and_refills_rows : List Row
depletes_and_refills_rows =
    at 0 0 (row.Release 0)
    ∷ at 0 0 (row.Run 0)
    ∷ at 2 0 (row.Stop 0 why.Spent 2 (Some 5))
    ∷ at 5 0 (row.Release 0)
    ∷ at 5 0 (row.Run 0)
    ∷ at 7 0 (row.Stop 0 why.Spent 2 (Some 10))
    ∷ at 10 0 (row.Release 0)
    ∷ at 10 0 (row.Run 0)
    ∷ at 11 0 (row.Round 0 1 11)
    ∷ at 11 0 (row.Stop 0 why.Done 1 None)
    ∷ []

depletes_and_refills : schedule depletes_and_refills_system 1000 ≡ depletes_and_refills_rows
depletes_and_refills = refl

abbrev pub driver_beside_a_loop_system : System
driver_beside_a_loop_system = record {
  cores = 1;
  delay = 1;
  call = 1;
  min_budget = 1;
  contexts =
      context (codes "control") 0 4 10 0
      ∷ context (codes "driver") 0 5 5 0
      ∷ context (codes "logger") 0 5 5 0
      ∷ [];
  notes =
      note (codes "sample") 0
      ∷ [];
  threads =
      thread (codes "Control") 0 9 0 2 3 ((Wait 0) ∷ (Compute 2) ∷ [])
      ∷ thread (codes "Driver") 1 5 0 2 0 ((Compute 2) ∷ (Signal 0 1) ∷ [])
      ∷ thread (codes "Logger") 2 5 0 1 0 ((Compute 6) ∷ [])
      ∷ [];
  orders = [];
  links = [];
  servers = 0;
  sources = [];
  beats = [];
  chains = [];
}

abbrev pub driver_beside_a_loop_rows : List Row
driver_beside_a_loop_rows =
    at 0 0 (row.Release 0)
    ∷ at 0 0 (row.Release 1)
    ∷ at 0 0 (row.Release 2)
    ∷ at 0 0 (row.Run 0)
    ∷ at 1 0 (row.Stop 0 why.Wait 1 None)
    ∷ at 1 0 (row.Run 1)
    ∷ at 4 0 (row.Signal 1 0 1)
    ∷ at 4 0 (row.Wake 0 0 1 None)
    ∷ at 4 0 (row.Round 1 1 4)
    ∷ at 4 0 (row.Stop 1 why.Preempt 3 None)
    ∷ at 4 0 (row.Run 0)
    ∷ at 6 0 (row.Round 0 1 2)
    ∷ at 7 0 (row.Stop 0 why.Wait 3 None)
    ∷ at 7 0 (row.Run 1)
    ∷ at 9 0 (row.Stop 1 why.Spent 2 None)
    ∷ at 9 0 (row.Run 2)
    ∷ at 14 0 (row.Stop 2 why.Spent 5 None)
    ∷ at 14 0 (row.Run 1)
    ∷ at 15 0 (row.Signal 1 0 1)
    ∷ at 15 0 (row.Wake 0 0 1 None)
    ∷ at 15 0 (row.Round 1 2 11)
    ∷ at 15 0 (row.Stop 1 why.Done 1 None)
    ∷ at 15 0 (row.Run 0)
    ∷ at 17 0 (row.Round 0 2 2)
    ∷ at 17 0 (row.Stop 0 why.Done 2 None)
    ∷ at 17 0 (row.Run 2)
    ∷ at 18 0 (row.Round 2 1 18)
    ∷ at 18 0 (row.Stop 2 why.Done 1 None)
    ∷ []

driver_beside_a_loop : schedule driver_beside_a_loop_system 20 ≡ driver_beside_a_loop_rows
driver_beside_a_loop = refl

abbrev pub idle_cores_system : System
idle_cores_system = record {
  cores = 2;
  delay = 1;
  call = 1;
  min_budget = 1;
  contexts = [];
  notes = [];
  threads = [];
  orders = [];
  links = [];
  servers = 0;
  sources = [];
  beats = [];
  chains = [];
}

abbrev pub idle_cores_rows : List Row
idle_cores_rows =
    []

idle_cores : schedule idle_cores_system 1 ≡ idle_cores_rows
idle_cores = refl

abbrev pub made_before_maker_system : System
made_before_maker_system = record {
  cores = 3;
  delay = 2;
  call = 1;
  min_budget = 1;
  contexts =
      context (codes "s") 0 5 10 0
      ∷ context (codes "t") 1 5 10 0
      ∷ context (codes "w") 2 5 10 0
      ∷ [];
  notes =
      note (codes "n") 2
      ∷ [];
  threads =
      thread (codes "S") 0 5 0 1 0 ((Compute 1) ∷ (Signal 0 1) ∷ [])
      ∷ thread (codes "T") 1 5 0 1 0 ((Signal 0 2) ∷ [])
      ∷ thread (codes "W") 2 5 0 1 0 ((Wait 0) ∷ (Compute 1) ∷ [])
      ∷ [];
  orders = [];
  links =
      link 1 2 3
      ∷ [];
  servers = 0;
  sources = [];
  beats = [];
  chains = [];
}

abbrev pub made_before_maker_rows : List Row
made_before_maker_rows =
    at 0 0 (row.Release 0)
    ∷ at 0 0 (row.Run 0)
    ∷ at 0 1 (row.Release 1)
    ∷ at 0 1 (row.Run 1)
    ∷ at 0 2 (row.Release 2)
    ∷ at 0 2 (row.Run 2)
    ∷ at 1 1 (row.Signal 1 0 2)
    ∷ at 1 1 (row.Round 1 1 1)
    ∷ at 1 1 (row.Stop 1 why.Done 1 None)
    ∷ at 1 2 (row.Stop 2 why.Wait 1 None)
    ∷ at 2 0 (row.Signal 0 0 1)
    ∷ at 2 0 (row.Round 0 1 2)
    ∷ at 2 0 (row.Stop 0 why.Done 2 None)
    ∷ at 4 2 (row.Arrive 0 2 1)
    ∷ at 4 2 (row.Wake 2 0 2 None)
    ∷ at 4 2 (row.Arrive 0 1 0)
    ∷ at 4 2 (row.Hold 0 1)
    ∷ at 4 2 (row.Run 2)
    ∷ []

made_before_maker : schedule made_before_maker_system 4 ≡ made_before_maker_rows
made_before_maker = refl

abbrev pub mode_change_by_orders_system : System
mode_change_by_orders_system = record {
  cores = 1;
  delay = 1;
  call = 1;
  min_budget = 1;
  contexts =
      context (codes "camera") 0 4 10 0
      ∷ context (codes "control") 0 2 10 0
      ∷ [];
  notes = [];
  threads =
      thread (codes "Camera") 0 9 0 1 0 ((Compute 100) ∷ [])
      ∷ thread (codes "Control") 1 5 0 0 10 ((Compute 4) ∷ [])
      ∷ [];
  orders =
      order 20 0 1 10 0
      ∷ order 20 1 8 10 0
      ∷ [];
  links = [];
  servers = 0;
  sources = [];
  beats = [];
  chains = [];
}

abbrev pub mode_change_by_orders_rows : List Row
mode_change_by_orders_rows =
    at 0 0 (row.Release 0)
    ∷ at 0 0 (row.Release 1)
    ∷ at 0 0 (row.Run 0)
    ∷ at 4 0 (row.Stop 0 why.Spent 4 (Some 10))
    ∷ at 4 0 (row.Run 1)
    ∷ at 6 0 (row.Stop 1 why.Spent 2 (Some 10))
    ∷ at 10 0 (row.Release 0)
    ∷ at 10 0 (row.Release 1)
    ∷ at 10 0 (row.Run 0)
    ∷ at 14 0 (row.Stop 0 why.Spent 4 (Some 20))
    ∷ at 14 0 (row.Run 1)
    ∷ at 16 0 (row.Round 1 1 16)
    ∷ at 16 0 (row.Stop 1 why.Spent 2 (Some 20))
    ∷ at 20 0 (row.Order 0)
    ∷ at 20 0 (row.Order 1)
    ∷ at 20 0 (row.Release 0)
    ∷ at 20 0 (row.Release 1)
    ∷ at 20 0 (row.Run 0)
    ∷ at 21 0 (row.Stop 0 why.Spent 1 (Some 30))
    ∷ at 21 0 (row.Run 1)
    ∷ at 23 0 (row.Stop 1 why.Spent 2 (Some 24))
    ∷ at 24 0 (row.Release 1)
    ∷ at 24 0 (row.Run 1)
    ∷ at 26 0 (row.Round 1 2 10)
    ∷ at 30 0 (row.Round 1 3 4)
    ∷ at 30 0 (row.Release 0)
    ∷ at 30 0 (row.Stop 1 why.Preempt 6 None)
    ∷ at 30 0 (row.Run 0)
    ∷ at 31 0 (row.Stop 0 why.Spent 1 (Some 40))
    ∷ at 31 0 (row.Run 1)
    ∷ at 33 0 (row.Stop 1 why.Spent 2 (Some 34))
    ∷ at 34 0 (row.Release 1)
    ∷ at 34 0 (row.Run 1)
    ∷ at 36 0 (row.Round 1 4 6)
    ∷ at 40 0 (row.Round 1 5 4)
    ∷ at 40 0 (row.Release 0)
    ∷ at 40 0 (row.Stop 1 why.Preempt 6 None)
    ∷ at 40 0 (row.Run 0)
    ∷ []

mode_change_by_orders : schedule mode_change_by_orders_system 40 ≡ mode_change_by_orders_rows
mode_change_by_orders = refl

abbrev pub one_fast_link_and_two_slow_ones_system : System
one_fast_link_and_two_slow_ones_system = record {
  cores = 3;
  delay = 4;
  call = 1;
  min_budget = 1;
  contexts =
      context (codes "s") 0 10 20 0
      ∷ context (codes "n") 1 10 20 0
      ∷ context (codes "f") 2 10 20 0
      ∷ [];
  notes =
      note (codes "near") 1
      ∷ note (codes "far") 2
      ∷ [];
  threads =
      thread (codes "Sender") 0 5 0 1 0 ((Compute 2) ∷ (Signal 0 1) ∷ (Signal 1 1) ∷ [])
      ∷ thread (codes "Near") 1 5 0 1 0 ((Wait 0) ∷ (Compute 1) ∷ (Signal 1 2) ∷ [])
      ∷ thread (codes "Far") 2 5 0 2 0 ((Wait 1) ∷ (Compute 1) ∷ [])
      ∷ [];
  orders = [];
  links =
      link 0 1 1
      ∷ link 0 2 10
      ∷ link 1 2 8
      ∷ [];
  servers = 0;
  sources = [];
  beats = [];
  chains = [];
}

abbrev pub one_fast_link_and_two_slow_ones_rows : List Row
one_fast_link_and_two_slow_ones_rows =
    at 0 0 (row.Release 0)
    ∷ at 0 0 (row.Run 0)
    ∷ at 0 1 (row.Release 1)
    ∷ at 0 1 (row.Run 1)
    ∷ at 0 2 (row.Release 2)
    ∷ at 0 2 (row.Run 2)
    ∷ at 1 1 (row.Stop 1 why.Wait 1 None)
    ∷ at 1 2 (row.Stop 2 why.Wait 1 None)
    ∷ at 3 0 (row.Signal 0 0 1)
    ∷ at 4 0 (row.Signal 0 1 1)
    ∷ at 4 0 (row.Round 0 1 4)
    ∷ at 4 0 (row.Stop 0 why.Done 4 None)
    ∷ at 4 1 (row.Arrive 0 1 0)
    ∷ at 4 1 (row.Wake 1 0 1 None)
    ∷ at 4 1 (row.Run 1)
    ∷ at 6 1 (row.Signal 1 1 2)
    ∷ at 6 1 (row.Round 1 1 2)
    ∷ at 6 1 (row.Stop 1 why.Done 2 None)
    ∷ at 14 2 (row.Arrive 1 1 0)
    ∷ at 14 2 (row.Wake 2 1 1 None)
    ∷ at 14 2 (row.Arrive 1 2 1)
    ∷ at 14 2 (row.Hold 1 2)
    ∷ at 14 2 (row.Run 2)
    ∷ at 15 2 (row.Round 2 1 1)
    ∷ at 16 2 (row.Got 2 1 2)
    ∷ at 17 2 (row.Round 2 2 1)
    ∷ at 17 2 (row.Stop 2 why.Done 3 None)
    ∷ []

one_fast_link_and_two_slow_ones : schedule one_fast_link_and_two_slow_ones_system 20 ≡ one_fast_link_and_two_slow_ones_rows
one_fast_link_and_two_slow_ones = refl

abbrev pub order_stops_the_runner_system : System
order_stops_the_runner_system = record {
  cores = 1;
  delay = 1;
  call = 1;
  min_budget = 1;
  contexts =
      context (codes "a") 0 10 100 0
      ∷ [];
  notes = [];
  threads =
      thread (codes "A") 0 5 0 1 0 ((Compute 20) ∷ [])
      ∷ [];
  orders =
      order 4 0 6 50 0
      ∷ [];
  links = [];
  servers = 0;
  sources = [];
  beats = [];
  chains = [];
}

abbrev pub order_stops_the_runner_rows : List Row
order_stops_the_runner_rows =
    at 0 0 (row.Release 0)
    ∷ at 0 0 (row.Run 0)
    ∷ at 4 0 (row.Order 0)
    ∷ at 4 0 (row.Stop 0 why.Order 4 None)
    ∷ at 4 0 (row.Run 0)
    ∷ at 10 0 (row.Stop 0 why.Spent 6 (Some 54))
    ∷ []

order_stops_the_runner : schedule order_stops_the_runner_system 10 ≡ order_stops_the_runner_rows
order_stops_the_runner = refl

abbrev pub overload_is_counted_system : System
overload_is_counted_system = record {
  cores = 2;
  delay = 1;
  call = 1;
  min_budget = 1;
  contexts =
      context (codes "worker") 0 4 12 0
      ∷ context (codes "source") 1 20 20 0
      ∷ [];
  notes =
      note (codes "req") 0
      ∷ [];
  threads =
      thread (codes "Worker") 0 5 0 0 4 ((Wait 0) ∷ (Compute 2) ∷ [])
      ∷ thread (codes "Source") 1 5 0 4 0 ((Compute 3) ∷ (Signal 0 1) ∷ [])
      ∷ [];
  orders = [];
  links = [];
  servers = 0;
  sources = [];
  beats = [];
  chains = [];
}

abbrev pub overload_is_counted_rows : List Row
overload_is_counted_rows =
    at 0 0 (row.Release 0)
    ∷ at 0 0 (row.Run 0)
    ∷ at 0 1 (row.Release 1)
    ∷ at 0 1 (row.Run 1)
    ∷ at 1 0 (row.Stop 0 why.Wait 1 None)
    ∷ at 4 1 (row.Signal 1 0 1)
    ∷ at 4 1 (row.Round 1 1 4)
    ∷ at 5 0 (row.Arrive 0 1 1)
    ∷ at 5 0 (row.Wake 0 0 1 None)
    ∷ at 5 0 (row.Run 0)
    ∷ at 7 0 (row.Round 0 1 2)
    ∷ at 8 0 (row.Stop 0 why.Wait 3 None)
    ∷ at 8 1 (row.Signal 1 0 1)
    ∷ at 8 1 (row.Round 1 2 4)
    ∷ at 9 0 (row.Arrive 0 1 1)
    ∷ at 9 0 (row.Wake 0 0 1 (Some 12))
    ∷ at 12 0 (row.Release 0)
    ∷ at 12 0 (row.Run 0)
    ∷ at 12 1 (row.Signal 1 0 1)
    ∷ at 12 1 (row.Round 1 3 4)
    ∷ at 13 0 (row.Stop 0 why.Spent 1 (Some 17))
    ∷ at 13 0 (row.Arrive 0 1 1)
    ∷ at 13 0 (row.Hold 0 1)
    ∷ at 16 1 (row.Signal 1 0 1)
    ∷ at 16 1 (row.Round 1 4 4)
    ∷ at 16 1 (row.Stop 1 why.Done 16 None)
    ∷ at 17 0 (row.Arrive 0 1 1)
    ∷ at 17 0 (row.Hold 0 1)
    ∷ at 17 0 (row.Release 0)
    ∷ at 17 0 (row.Run 0)
    ∷ at 18 0 (row.Round 0 2 9)
    ∷ at 19 0 (row.Got 0 0 1)
    ∷ at 20 0 (row.Stop 0 why.Spent 3 (Some 24))
    ∷ at 24 0 (row.Release 0)
    ∷ at 24 0 (row.Run 0)
    ∷ at 25 0 (row.Round 0 3 6)
    ∷ at 25 0 (row.Stop 0 why.Spent 1 (Some 29))
    ∷ []

overload_is_counted : schedule overload_is_counted_system 28 ≡ overload_is_counted_rows
overload_is_counted = refl

abbrev pub overload_throttles_the_stream_system : System
overload_throttles_the_stream_system = record {
  cores = 1;
  delay = 1;
  call = 1;
  min_budget = 1;
  contexts =
      context (codes "stream") 0 3 10 0
      ∷ context (codes "brake") 0 4 10 0
      ∷ [];
  notes = [];
  threads =
      thread (codes "Stream") 0 9 0 1 0 ((Compute 8) ∷ [])
      ∷ thread (codes "Brake") 1 5 0 1 8 ((Compute 4) ∷ [])
      ∷ [];
  orders = [];
  links = [];
  servers = 0;
  sources = [];
  beats = [];
  chains = [];
}

abbrev pub overload_throttles_the_stream_rows : List Row
overload_throttles_the_stream_rows =
    at 0 0 (row.Release 0)
    ∷ at 0 0 (row.Release 1)
    ∷ at 0 0 (row.Run 0)
    ∷ at 3 0 (row.Stop 0 why.Spent 3 (Some 10))
    ∷ at 3 0 (row.Run 1)
    ∷ at 7 0 (row.Round 1 1 7)
    ∷ at 7 0 (row.Stop 1 why.Done 4 None)
    ∷ at 10 0 (row.Release 0)
    ∷ at 10 0 (row.Run 0)
    ∷ at 13 0 (row.Stop 0 why.Spent 3 (Some 20))
    ∷ at 20 0 (row.Release 0)
    ∷ at 20 0 (row.Run 0)
    ∷ at 22 0 (row.Round 0 1 22)
    ∷ at 22 0 (row.Stop 0 why.Done 2 None)
    ∷ []

overload_throttles_the_stream : schedule overload_throttles_the_stream_system 25 ≡ overload_throttles_the_stream_rows
overload_throttles_the_stream = refl

abbrev pub overrun_within_a_budget_system : System
overrun_within_a_budget_system = record {
  cores = 1;
  delay = 1;
  call = 1;
  min_budget = 1;
  contexts =
      context (codes "video") 0 2 5 0
      ∷ context (codes "flight") 0 5 10 0
      ∷ [];
  notes = [];
  threads =
      thread (codes "Video") 0 9 0 2 0 ((Compute 6) ∷ [])
      ∷ thread (codes "Flight") 1 5 0 1 8 ((Compute 4) ∷ [])
      ∷ [];
  orders = [];
  links = [];
  servers = 0;
  sources = [];
  beats = [];
  chains = [];
}

abbrev pub overrun_within_a_budget_rows : List Row
overrun_within_a_budget_rows =
    at 0 0 (row.Release 0)
    ∷ at 0 0 (row.Release 1)
    ∷ at 0 0 (row.Run 0)
    ∷ at 2 0 (row.Stop 0 why.Spent 2 (Some 5))
    ∷ at 2 0 (row.Run 1)
    ∷ at 5 0 (row.Release 0)
    ∷ at 5 0 (row.Stop 1 why.Preempt 3 None)
    ∷ at 5 0 (row.Run 0)
    ∷ at 7 0 (row.Stop 0 why.Spent 2 (Some 10))
    ∷ at 7 0 (row.Run 1)
    ∷ at 8 0 (row.Round 1 1 8)
    ∷ at 8 0 (row.Stop 1 why.Done 1 None)
    ∷ at 10 0 (row.Release 0)
    ∷ at 10 0 (row.Run 0)
    ∷ at 12 0 (row.Round 0 1 12)
    ∷ at 12 0 (row.Stop 0 why.Spent 2 (Some 15))
    ∷ at 15 0 (row.Release 0)
    ∷ at 15 0 (row.Run 0)
    ∷ at 17 0 (row.Stop 0 why.Spent 2 (Some 20))
    ∷ at 20 0 (row.Release 0)
    ∷ at 20 0 (row.Run 0)
    ∷ []

overrun_within_a_budget : schedule overrun_within_a_budget_system 20 ≡ overrun_within_a_budget_rows
overrun_within_a_budget = refl

abbrev pub overrun_without_a_budget_system : System
overrun_without_a_budget_system = record {
  cores = 1;
  delay = 1;
  call = 1;
  min_budget = 1;
  contexts =
      context (codes "video") 0 20 20 0
      ∷ context (codes "flight") 0 5 10 0
      ∷ [];
  notes = [];
  threads =
      thread (codes "Video") 0 9 0 2 0 ((Compute 6) ∷ [])
      ∷ thread (codes "Flight") 1 5 0 1 8 ((Compute 4) ∷ [])
      ∷ [];
  orders = [];
  links = [];
  servers = 0;
  sources = [];
  beats = [];
  chains = [];
}

abbrev pub overrun_without_a_budget_rows : List Row
overrun_without_a_budget_rows =
    at 0 0 (row.Release 0)
    ∷ at 0 0 (row.Release 1)
    ∷ at 0 0 (row.Run 0)
    ∷ at 6 0 (row.Round 0 1 6)
    ∷ at 12 0 (row.Round 0 2 6)
    ∷ at 12 0 (row.Stop 0 why.Done 12 None)
    ∷ at 12 0 (row.Run 1)
    ∷ at 16 0 (row.Round 1 1 16)
    ∷ at 16 0 (row.Stop 1 why.Done 4 None)
    ∷ []

overrun_without_a_budget : schedule overrun_without_a_budget_system 20 ≡ overrun_without_a_budget_rows
overrun_without_a_budget = refl

abbrev pub pipeline_over_four_cores_system : System
pipeline_over_four_cores_system = record {
  cores = 4;
  delay = 1;
  call = 1;
  min_budget = 1;
  contexts =
      context (codes "sensor") 0 10 20 0
      ∷ context (codes "filter") 1 10 20 0
      ∷ context (codes "plan") 2 10 20 0
      ∷ context (codes "act") 3 10 20 0
      ∷ [];
  notes =
      note (codes "filter") 1
      ∷ note (codes "plan") 2
      ∷ note (codes "act") 3
      ∷ [];
  threads =
      thread (codes "Sensor") 0 5 0 2 0 ((Compute 2) ∷ (Signal 0 1) ∷ [])
      ∷ thread (codes "Filter") 1 5 0 2 0 ((Wait 0) ∷ (Compute 1) ∷ (Signal 1 1) ∷ [])
      ∷ thread (codes "Plan") 2 5 0 2 0 ((Wait 1) ∷ (Compute 2) ∷ (Signal 2 1) ∷ [])
      ∷ thread (codes "Act") 3 5 0 2 0 ((Wait 2) ∷ (Compute 1) ∷ [])
      ∷ [];
  orders = [];
  links =
      link 1 2 8
      ∷ [];
  servers = 0;
  sources = [];
  beats = [];
  chains = [];
}

abbrev pub pipeline_over_four_cores_rows : List Row
pipeline_over_four_cores_rows =
    at 0 0 (row.Release 0)
    ∷ at 0 0 (row.Run 0)
    ∷ at 0 1 (row.Release 1)
    ∷ at 0 1 (row.Run 1)
    ∷ at 0 2 (row.Release 2)
    ∷ at 0 2 (row.Run 2)
    ∷ at 0 3 (row.Release 3)
    ∷ at 0 3 (row.Run 3)
    ∷ at 1 1 (row.Stop 1 why.Wait 1 None)
    ∷ at 1 2 (row.Stop 2 why.Wait 1 None)
    ∷ at 1 3 (row.Stop 3 why.Wait 1 None)
    ∷ at 3 0 (row.Signal 0 0 1)
    ∷ at 3 0 (row.Round 0 1 3)
    ∷ at 4 1 (row.Arrive 0 1 0)
    ∷ at 4 1 (row.Wake 1 0 1 None)
    ∷ at 4 1 (row.Run 1)
    ∷ at 6 0 (row.Signal 0 0 1)
    ∷ at 6 0 (row.Round 0 2 3)
    ∷ at 6 0 (row.Stop 0 why.Done 6 None)
    ∷ at 6 1 (row.Signal 1 1 1)
    ∷ at 6 1 (row.Round 1 1 2)
    ∷ at 7 1 (row.Stop 1 why.Wait 3 None)
    ∷ at 7 1 (row.Arrive 0 1 0)
    ∷ at 7 1 (row.Wake 1 0 1 None)
    ∷ at 7 1 (row.Run 1)
    ∷ at 9 1 (row.Signal 1 1 1)
    ∷ at 9 1 (row.Round 1 2 2)
    ∷ at 9 1 (row.Stop 1 why.Done 2 None)
    ∷ at 14 2 (row.Arrive 1 1 1)
    ∷ at 14 2 (row.Wake 2 1 1 None)
    ∷ at 14 2 (row.Run 2)
    ∷ at 17 2 (row.Signal 2 2 1)
    ∷ at 17 2 (row.Round 2 1 3)
    ∷ at 17 2 (row.Arrive 1 1 1)
    ∷ at 17 2 (row.Hold 1 1)
    ∷ at 18 2 (row.Got 2 1 1)
    ∷ at 18 3 (row.Arrive 2 1 2)
    ∷ at 18 3 (row.Wake 3 2 1 None)
    ∷ at 18 3 (row.Run 3)
    ∷ at 19 3 (row.Round 3 1 1)
    ∷ at 20 3 (row.Stop 3 why.Wait 2 None)
    ∷ at 21 2 (row.Signal 2 2 1)
    ∷ at 21 2 (row.Round 2 2 3)
    ∷ at 21 2 (row.Stop 2 why.Done 7 None)
    ∷ at 22 3 (row.Arrive 2 1 2)
    ∷ at 22 3 (row.Wake 3 2 1 None)
    ∷ at 22 3 (row.Run 3)
    ∷ at 23 3 (row.Round 3 2 1)
    ∷ at 23 3 (row.Stop 3 why.Done 1 None)
    ∷ []

pipeline_over_four_cores : schedule pipeline_over_four_cores_system 24 ≡ pipeline_over_four_cores_rows
pipeline_over_four_cores = refl

abbrev pub refills_enough_system : System
refills_enough_system = record {
  cores = 2;
  delay = 1;
  call = 1;
  min_budget = 1;
  contexts =
      context (codes "worker") 0 6 12 8
      ∷ context (codes "source") 1 40 40 0
      ∷ [];
  notes =
      note (codes "event") 0
      ∷ [];
  threads =
      thread (codes "Worker") 0 5 0 0 3 ((Wait 0) ∷ (Compute 1) ∷ [])
      ∷ thread (codes "Source") 1 5 0 6 0 ((Compute 3) ∷ (Signal 0 1) ∷ [])
      ∷ [];
  orders = [];
  links = [];
  servers = 0;
  sources = [];
  beats = [];
  chains = [];
}

abbrev pub refills_enough_rows : List Row
refills_enough_rows =
    at 0 0 (row.Release 0)
    ∷ at 0 0 (row.Run 0)
    ∷ at 0 1 (row.Release 1)
    ∷ at 0 1 (row.Run 1)
    ∷ at 1 0 (row.Stop 0 why.Wait 1 None)
    ∷ at 4 1 (row.Signal 1 0 1)
    ∷ at 4 1 (row.Round 1 1 4)
    ∷ at 5 0 (row.Arrive 0 1 1)
    ∷ at 5 0 (row.Wake 0 0 1 None)
    ∷ at 5 0 (row.Run 0)
    ∷ at 6 0 (row.Round 0 1 1)
    ∷ at 7 0 (row.Stop 0 why.Wait 2 None)
    ∷ at 8 1 (row.Signal 1 0 1)
    ∷ at 8 1 (row.Round 1 2 4)
    ∷ at 9 0 (row.Arrive 0 1 1)
    ∷ at 9 0 (row.Wake 0 0 1 None)
    ∷ at 9 0 (row.Run 0)
    ∷ at 10 0 (row.Round 0 2 1)
    ∷ at 11 0 (row.Stop 0 why.Wait 2 None)
    ∷ at 12 1 (row.Signal 1 0 1)
    ∷ at 12 1 (row.Round 1 3 4)
    ∷ at 13 0 (row.Arrive 0 1 1)
    ∷ at 13 0 (row.Wake 0 0 1 None)
    ∷ at 13 0 (row.Run 0)
    ∷ at 14 0 (row.Round 0 3 1)
    ∷ at 15 0 (row.Stop 0 why.Wait 2 None)
    ∷ at 16 1 (row.Signal 1 0 1)
    ∷ at 16 1 (row.Round 1 4 4)
    ∷ at 17 0 (row.Arrive 0 1 1)
    ∷ at 17 0 (row.Wake 0 0 1 None)
    ∷ at 17 0 (row.Run 0)
    ∷ at 18 0 (row.Round 0 4 1)
    ∷ at 19 0 (row.Stop 0 why.Wait 2 None)
    ∷ at 20 1 (row.Signal 1 0 1)
    ∷ at 20 1 (row.Round 1 5 4)
    ∷ at 21 0 (row.Arrive 0 1 1)
    ∷ at 21 0 (row.Wake 0 0 1 None)
    ∷ at 21 0 (row.Run 0)
    ∷ at 22 0 (row.Round 0 5 1)
    ∷ at 23 0 (row.Stop 0 why.Wait 2 None)
    ∷ at 24 1 (row.Signal 1 0 1)
    ∷ at 24 1 (row.Round 1 6 4)
    ∷ at 24 1 (row.Stop 1 why.Done 24 None)
    ∷ at 25 0 (row.Arrive 0 1 1)
    ∷ at 25 0 (row.Wake 0 0 1 None)
    ∷ at 25 0 (row.Run 0)
    ∷ at 26 0 (row.Round 0 6 1)
    ∷ at 27 0 (row.Stop 0 why.Wait 2 None)
    ∷ []

refills_enough : schedule refills_enough_system 30 ≡ refills_enough_rows
refills_enough = refl

abbrev pub refills_too_few_system : System
refills_too_few_system = record {
  cores = 2;
  delay = 1;
  call = 1;
  min_budget = 1;
  contexts =
      context (codes "worker") 0 6 12 0
      ∷ context (codes "source") 1 40 40 0
      ∷ [];
  notes =
      note (codes "event") 0
      ∷ [];
  threads =
      thread (codes "Worker") 0 5 0 0 3 ((Wait 0) ∷ (Compute 1) ∷ [])
      ∷ thread (codes "Source") 1 5 0 6 0 ((Compute 3) ∷ (Signal 0 1) ∷ [])
      ∷ [];
  orders = [];
  links = [];
  servers = 0;
  sources = [];
  beats = [];
  chains = [];
}

abbrev pub refills_too_few_rows : List Row
refills_too_few_rows =
    at 0 0 (row.Release 0)
    ∷ at 0 0 (row.Run 0)
    ∷ at 0 1 (row.Release 1)
    ∷ at 0 1 (row.Run 1)
    ∷ at 1 0 (row.Stop 0 why.Wait 1 None)
    ∷ at 4 1 (row.Signal 1 0 1)
    ∷ at 4 1 (row.Round 1 1 4)
    ∷ at 5 0 (row.Arrive 0 1 1)
    ∷ at 5 0 (row.Wake 0 0 1 None)
    ∷ at 5 0 (row.Run 0)
    ∷ at 6 0 (row.Round 0 1 1)
    ∷ at 7 0 (row.Stop 0 why.Wait 2 None)
    ∷ at 8 1 (row.Signal 1 0 1)
    ∷ at 8 1 (row.Round 1 2 4)
    ∷ at 9 0 (row.Arrive 0 1 1)
    ∷ at 9 0 (row.Wake 0 0 1 None)
    ∷ at 9 0 (row.Run 0)
    ∷ at 10 0 (row.Round 0 2 1)
    ∷ at 11 0 (row.Stop 0 why.Wait 2 None)
    ∷ at 12 1 (row.Signal 1 0 1)
    ∷ at 12 1 (row.Round 1 3 4)
    ∷ at 13 0 (row.Arrive 0 1 1)
    ∷ at 13 0 (row.Wake 0 0 1 None)
    ∷ at 13 0 (row.Run 0)
    ∷ at 14 0 (row.Round 0 3 1)
    ∷ at 14 0 (row.Stop 0 why.Spent 1 (Some 18))
    ∷ at 16 1 (row.Signal 1 0 1)
    ∷ at 16 1 (row.Round 1 4 4)
    ∷ at 17 0 (row.Arrive 0 1 1)
    ∷ at 17 0 (row.Hold 0 1)
    ∷ at 18 0 (row.Release 0)
    ∷ at 18 0 (row.Run 0)
    ∷ at 19 0 (row.Got 0 0 1)
    ∷ at 20 0 (row.Round 0 4 1)
    ∷ at 20 1 (row.Signal 1 0 1)
    ∷ at 20 1 (row.Round 1 5 4)
    ∷ at 21 0 (row.Stop 0 why.Wait 3 None)
    ∷ at 21 0 (row.Arrive 0 1 1)
    ∷ at 21 0 (row.Wake 0 0 1 None)
    ∷ at 21 0 (row.Run 0)
    ∷ at 22 0 (row.Round 0 5 1)
    ∷ at 23 0 (row.Stop 0 why.Wait 2 None)
    ∷ at 24 1 (row.Signal 1 0 1)
    ∷ at 24 1 (row.Round 1 6 4)
    ∷ at 24 1 (row.Stop 1 why.Done 24 None)
    ∷ at 25 0 (row.Arrive 0 1 1)
    ∷ at 25 0 (row.Wake 0 0 1 (Some 29))
    ∷ at 29 0 (row.Release 0)
    ∷ at 29 0 (row.Run 0)
    ∷ at 30 0 (row.Round 0 6 5)
    ∷ []

refills_too_few : schedule refills_too_few_system 30 ≡ refills_too_few_rows
refills_too_few = refl

abbrev pub ring_of_three_cores_system : System
ring_of_three_cores_system = record {
  cores = 3;
  delay = 1;
  call = 1;
  min_budget = 1;
  contexts =
      context (codes "a") 0 5 10 0
      ∷ context (codes "b") 1 5 10 0
      ∷ context (codes "c") 2 5 10 0
      ∷ [];
  notes =
      note (codes "p") 0
      ∷ note (codes "q") 1
      ∷ note (codes "r") 2
      ∷ [];
  threads =
      thread (codes "A") 0 1 0 1 0 ((Signal 1 1) ∷ (Wait 0) ∷ (Compute 1) ∷ [])
      ∷ thread (codes "B") 1 1 0 1 0 ((Wait 1) ∷ (Signal 2 1) ∷ [])
      ∷ thread (codes "C") 2 1 0 1 0 ((Wait 2) ∷ (Signal 0 1) ∷ [])
      ∷ [];
  orders = [];
  links = [];
  servers = 0;
  sources = [];
  beats = [];
  chains = [];
}

abbrev pub ring_of_three_cores_rows : List Row
ring_of_three_cores_rows =
    at 0 0 (row.Release 0)
    ∷ at 0 0 (row.Run 0)
    ∷ at 0 1 (row.Release 1)
    ∷ at 0 1 (row.Run 1)
    ∷ at 0 2 (row.Release 2)
    ∷ at 0 2 (row.Run 2)
    ∷ at 1 0 (row.Signal 0 1 1)
    ∷ at 1 1 (row.Stop 1 why.Wait 1 None)
    ∷ at 1 2 (row.Stop 2 why.Wait 1 None)
    ∷ at 2 0 (row.Stop 0 why.Wait 2 None)
    ∷ at 2 1 (row.Arrive 1 1 0)
    ∷ at 2 1 (row.Wake 1 1 1 None)
    ∷ at 2 1 (row.Run 1)
    ∷ at 3 1 (row.Signal 1 2 1)
    ∷ at 3 1 (row.Round 1 1 1)
    ∷ at 3 1 (row.Stop 1 why.Done 1 None)
    ∷ at 4 2 (row.Arrive 2 1 1)
    ∷ at 4 2 (row.Wake 2 2 1 None)
    ∷ at 4 2 (row.Run 2)
    ∷ at 5 2 (row.Signal 2 0 1)
    ∷ at 5 2 (row.Round 2 1 1)
    ∷ at 5 2 (row.Stop 2 why.Done 1 None)
    ∷ at 6 0 (row.Arrive 0 1 2)
    ∷ at 6 0 (row.Wake 0 0 1 None)
    ∷ at 6 0 (row.Run 0)
    ∷ at 7 0 (row.Round 0 1 7)
    ∷ at 7 0 (row.Stop 0 why.Done 1 None)
    ∷ []

ring_of_three_cores : schedule ring_of_three_cores_system 7 ≡ ring_of_three_cores_rows
ring_of_three_cores = refl

abbrev pub round_robin_takes_turns_system : System
round_robin_takes_turns_system = record {
  cores = 1;
  delay = 1;
  call = 1;
  min_budget = 1;
  contexts =
      context (codes "a") 0 3 3 0
      ∷ context (codes "b") 0 3 3 0
      ∷ context (codes "c") 0 2 10 0
      ∷ [];
  notes = [];
  threads =
      thread (codes "A") 0 5 0 1 0 ((Compute 10) ∷ [])
      ∷ thread (codes "B") 1 5 0 1 0 ((Compute 10) ∷ [])
      ∷ thread (codes "C") 2 9 1 1 0 ((Compute 1) ∷ [])
      ∷ [];
  orders = [];
  links = [];
  servers = 0;
  sources = [];
  beats = [];
  chains = [];
}

abbrev pub round_robin_takes_turns_rows : List Row
round_robin_takes_turns_rows =
    at 0 0 (row.Release 0)
    ∷ at 0 0 (row.Release 1)
    ∷ at 0 0 (row.Run 0)
    ∷ at 1 0 (row.Release 2)
    ∷ at 1 0 (row.Stop 0 why.Preempt 1 None)
    ∷ at 1 0 (row.Run 2)
    ∷ at 2 0 (row.Round 2 1 1)
    ∷ at 2 0 (row.Stop 2 why.Done 1 None)
    ∷ at 2 0 (row.Run 0)
    ∷ at 4 0 (row.Stop 0 why.Spent 2 None)
    ∷ at 4 0 (row.Run 1)
    ∷ at 7 0 (row.Stop 1 why.Spent 3 None)
    ∷ at 7 0 (row.Run 0)
    ∷ []

round_robin_takes_turns : schedule round_robin_takes_turns_system 7 ≡ round_robin_takes_turns_rows
round_robin_takes_turns = refl

abbrev pub server_core_of_three_clients_system : System
server_core_of_three_clients_system = record {
  cores = 4;
  delay = 2;
  call = 1;
  min_budget = 1;
  contexts =
      context (codes "server") 0 10 20 0
      ∷ context (codes "one") 1 5 20 0
      ∷ context (codes "two") 2 5 20 0
      ∷ context (codes "three") 3 5 20 0
      ∷ [];
  notes =
      note (codes "work") 0
      ∷ [];
  threads =
      thread (codes "Server") 0 5 0 0 3 ((Wait 0) ∷ (Compute 2) ∷ [])
      ∷ thread (codes "One") 1 5 0 1 0 ((Compute 1) ∷ (Signal 0 1) ∷ [])
      ∷ thread (codes "Two") 2 5 0 1 0 ((Compute 1) ∷ (Signal 0 2) ∷ [])
      ∷ thread (codes "Three") 3 5 0 1 0 ((Compute 3) ∷ (Signal 0 4) ∷ [])
      ∷ [];
  orders = [];
  links = [];
  servers = 0;
  sources = [];
  beats = [];
  chains = [];
}

abbrev pub server_core_of_three_clients_rows : List Row
server_core_of_three_clients_rows =
    at 0 0 (row.Release 0)
    ∷ at 0 0 (row.Run 0)
    ∷ at 0 1 (row.Release 1)
    ∷ at 0 1 (row.Run 1)
    ∷ at 0 2 (row.Release 2)
    ∷ at 0 2 (row.Run 2)
    ∷ at 0 3 (row.Release 3)
    ∷ at 0 3 (row.Run 3)
    ∷ at 1 0 (row.Stop 0 why.Wait 1 None)
    ∷ at 2 1 (row.Signal 1 0 1)
    ∷ at 2 1 (row.Round 1 1 2)
    ∷ at 2 1 (row.Stop 1 why.Done 2 None)
    ∷ at 2 2 (row.Signal 2 0 2)
    ∷ at 2 2 (row.Round 2 1 2)
    ∷ at 2 2 (row.Stop 2 why.Done 2 None)
    ∷ at 4 0 (row.Arrive 0 1 1)
    ∷ at 4 0 (row.Wake 0 0 1 None)
    ∷ at 4 0 (row.Arrive 0 2 2)
    ∷ at 4 0 (row.Hold 0 2)
    ∷ at 4 0 (row.Run 0)
    ∷ at 4 3 (row.Signal 3 0 4)
    ∷ at 4 3 (row.Round 3 1 4)
    ∷ at 4 3 (row.Stop 3 why.Done 4 None)
    ∷ at 6 0 (row.Round 0 1 2)
    ∷ at 6 0 (row.Arrive 0 4 3)
    ∷ at 6 0 (row.Hold 0 6)
    ∷ at 7 0 (row.Got 0 0 6)
    ∷ at 9 0 (row.Round 0 2 2)
    ∷ at 10 0 (row.Stop 0 why.Wait 6 None)
    ∷ []

server_core_of_three_clients : schedule server_core_of_three_clients_system 12 ≡ server_core_of_three_clients_rows
server_core_of_three_clients = refl

abbrev pub signals_beyond_the_horizon_system : System
signals_beyond_the_horizon_system = record {
  cores = 3;
  delay = 8;
  call = 1;
  min_budget = 1;
  contexts =
      context (codes "s") 0 5 10 0
      ∷ context (codes "t") 1 5 10 0
      ∷ context (codes "w") 2 5 10 0
      ∷ [];
  notes =
      note (codes "n") 2
      ∷ [];
  threads =
      thread (codes "S") 0 5 0 1 0 ((Compute 1) ∷ (Signal 0 1) ∷ [])
      ∷ thread (codes "T") 1 5 0 1 0 ((Compute 1) ∷ (Signal 0 2) ∷ [])
      ∷ thread (codes "W") 2 5 0 1 0 ((Wait 0) ∷ (Compute 1) ∷ [])
      ∷ [];
  orders = [];
  links = [];
  servers = 0;
  sources = [];
  beats = [];
  chains = [];
}

abbrev pub signals_beyond_the_horizon_rows : List Row
signals_beyond_the_horizon_rows =
    at 0 0 (row.Release 0)
    ∷ at 0 0 (row.Run 0)
    ∷ at 0 1 (row.Release 1)
    ∷ at 0 1 (row.Run 1)
    ∷ at 0 2 (row.Release 2)
    ∷ at 0 2 (row.Run 2)
    ∷ at 1 2 (row.Stop 2 why.Wait 1 None)
    ∷ at 2 0 (row.Signal 0 0 1)
    ∷ at 2 0 (row.Round 0 1 2)
    ∷ at 2 0 (row.Stop 0 why.Done 2 None)
    ∷ at 2 1 (row.Signal 1 0 2)
    ∷ at 2 1 (row.Round 1 1 2)
    ∷ at 2 1 (row.Stop 1 why.Done 2 None)
    ∷ []

signals_beyond_the_horizon : schedule signals_beyond_the_horizon_system 4 ≡ signals_beyond_the_horizon_rows
signals_beyond_the_horizon = refl

abbrev pub slice_refills_at_once_system : System
slice_refills_at_once_system = record {
  cores = 1;
  delay = 1;
  call = 1;
  min_budget = 1;
  contexts =
      context (codes "a") 0 3 3 0
      ∷ [];
  notes = [];
  threads =
      thread (codes "A") 0 5 0 1 0 ((Compute 7) ∷ [])
      ∷ [];
  orders = [];
  links = [];
  servers = 0;
  sources = [];
  beats = [];
  chains = [];
}

abbrev pub slice_refills_at_once_rows : List Row
slice_refills_at_once_rows =
    at 0 0 (row.Release 0)
    ∷ at 0 0 (row.Run 0)
    ∷ at 3 0 (row.Stop 0 why.Spent 3 None)
    ∷ at 3 0 (row.Run 0)
    ∷ at 6 0 (row.Stop 0 why.Spent 3 None)
    ∷ at 6 0 (row.Run 0)
    ∷ at 7 0 (row.Round 0 1 7)
    ∷ at 7 0 (row.Stop 0 why.Done 1 None)
    ∷ []

slice_refills_at_once : schedule slice_refills_at_once_system 7 ≡ slice_refills_at_once_rows
slice_refills_at_once = refl

abbrev pub small_head_joins_system : System
small_head_joins_system = record {
  cores = 1;
  delay = 1;
  call = 1;
  min_budget = 4;
  contexts =
      context (codes "a") 0 10 100 0
      ∷ context (codes "b") 0 4 50 0
      ∷ [];
  notes = [];
  threads =
      thread (codes "A") 0 5 0 1 0 ((Compute 20) ∷ [])
      ∷ thread (codes "B") 1 9 7 1 0 ((Compute 1) ∷ [])
      ∷ [];
  orders = [];
  links = [];
  servers = 0;
  sources = [];
  beats = [];
  chains = [];
}

abbrev pub small_head_joins_rows : List Row
small_head_joins_rows =
    at 0 0 (row.Release 0)
    ∷ at 0 0 (row.Run 0)
    ∷ at 7 0 (row.Release 1)
    ∷ at 7 0 (row.Stop 0 why.Preempt 7 (Some 97))
    ∷ at 7 0 (row.Run 1)
    ∷ at 8 0 (row.Round 1 1 1)
    ∷ at 8 0 (row.Stop 1 why.Done 1 None)
    ∷ []

small_head_joins : schedule small_head_joins_system 10 ≡ small_head_joins_rows
small_head_joins = refl

abbrev pub sporadic_does_not_unblock_when_chosen_system : System
sporadic_does_not_unblock_when_chosen_system = record {
  cores = 1;
  delay = 1;
  call = 1;
  min_budget = 1;
  contexts =
      context (codes "a") 0 4 10 0
      ∷ context (codes "b") 0 3 20 0
      ∷ [];
  notes = [];
  threads =
      thread (codes "A") 0 5 0 1 0 ((Compute 20) ∷ [])
      ∷ thread (codes "B") 1 9 0 1 0 ((Compute 3) ∷ [])
      ∷ [];
  orders = [];
  links = [];
  servers = 0;
  sources = [];
  beats = [];
  chains = [];
}

abbrev pub sporadic_does_not_unblock_when_chosen_rows : List Row
sporadic_does_not_unblock_when_chosen_rows =
    at 0 0 (row.Release 0)
    ∷ at 0 0 (row.Release 1)
    ∷ at 0 0 (row.Run 1)
    ∷ at 3 0 (row.Round 1 1 3)
    ∷ at 3 0 (row.Stop 1 why.Done 3 None)
    ∷ at 3 0 (row.Run 0)
    ∷ at 7 0 (row.Stop 0 why.Spent 4 (Some 10))
    ∷ at 10 0 (row.Release 0)
    ∷ at 10 0 (row.Run 0)
    ∷ []

sporadic_does_not_unblock_when_chosen : schedule sporadic_does_not_unblock_when_chosen_system 13 ≡ sporadic_does_not_unblock_when_chosen_rows
sporadic_does_not_unblock_when_chosen = refl

abbrev pub sporadic_uses_two_budgets_back_to_back_system : System
sporadic_uses_two_budgets_back_to_back_system = record {
  cores = 1;
  delay = 1;
  call = 1;
  min_budget = 1;
  contexts =
      context (codes "loop") 0 4 10 0
      ∷ context (codes "burst") 0 6 20 0
      ∷ [];
  notes = [];
  threads =
      thread (codes "Loop") 0 5 0 1 0 ((Compute 20) ∷ [])
      ∷ thread (codes "Burst") 1 9 0 1 0 ((Compute 6) ∷ [])
      ∷ [];
  orders = [];
  links = [];
  servers = 0;
  sources = [];
  beats = [];
  chains = [];
}

abbrev pub sporadic_uses_two_budgets_back_to_back_rows : List Row
sporadic_uses_two_budgets_back_to_back_rows =
    at 0 0 (row.Release 0)
    ∷ at 0 0 (row.Release 1)
    ∷ at 0 0 (row.Run 1)
    ∷ at 6 0 (row.Round 1 1 6)
    ∷ at 6 0 (row.Stop 1 why.Done 6 None)
    ∷ at 6 0 (row.Run 0)
    ∷ at 10 0 (row.Stop 0 why.Spent 4 None)
    ∷ at 10 0 (row.Run 0)
    ∷ at 14 0 (row.Stop 0 why.Spent 4 (Some 20))
    ∷ at 20 0 (row.Release 0)
    ∷ at 20 0 (row.Run 0)
    ∷ []

sporadic_uses_two_budgets_back_to_back : schedule sporadic_uses_two_budgets_back_to_back_system 20 ≡ sporadic_uses_two_budgets_back_to_back_rows
sporadic_uses_two_budgets_back_to_back = refl

abbrev pub starts_late_system : System
starts_late_system = record {
  cores = 1;
  delay = 1;
  call = 1;
  min_budget = 1;
  contexts =
      context (codes "a") 0 2 5 0
      ∷ [];
  notes = [];
  threads =
      thread (codes "A") 0 5 3 1 0 ((Compute 2) ∷ [])
      ∷ [];
  orders = [];
  links = [];
  servers = 0;
  sources = [];
  beats = [];
  chains = [];
}

abbrev pub starts_late_rows : List Row
starts_late_rows =
    at 3 0 (row.Release 0)
    ∷ at 3 0 (row.Run 0)
    ∷ at 5 0 (row.Round 0 1 2)
    ∷ at 5 0 (row.Stop 0 why.Done 2 None)
    ∷ []

starts_late : schedule starts_late_system 6 ≡ starts_late_rows
starts_late = refl

abbrev pub storm_of_interrupts_system : System
storm_of_interrupts_system = record {
  cores = 2;
  delay = 1;
  call = 1;
  min_budget = 1;
  contexts =
      context (codes "handler") 0 3 10 0
      ∷ context (codes "app") 0 20 20 0
      ∷ context (codes "device") 1 20 20 0
      ∷ [];
  notes =
      note (codes "irq") 0
      ∷ [];
  threads =
      thread (codes "Handler") 0 200 0 0 0 ((Wait 0) ∷ (Compute 1) ∷ [])
      ∷ thread (codes "App") 1 5 0 1 12 ((Compute 8) ∷ [])
      ∷ thread (codes "Device") 2 5 0 1 0 ((Signal 0 1) ∷ (Signal 0 1) ∷ (Signal 0 1) ∷ (Signal 0 1) ∷ (Signal 0 1) ∷ (Signal 0 1) ∷ [])
      ∷ [];
  orders = [];
  links = [];
  servers = 0;
  sources = [];
  beats = [];
  chains = [];
}

abbrev pub storm_of_interrupts_rows : List Row
storm_of_interrupts_rows =
    at 0 0 (row.Release 0)
    ∷ at 0 0 (row.Release 1)
    ∷ at 0 0 (row.Run 0)
    ∷ at 0 1 (row.Release 2)
    ∷ at 0 1 (row.Run 2)
    ∷ at 1 0 (row.Stop 0 why.Wait 1 None)
    ∷ at 1 0 (row.Run 1)
    ∷ at 1 1 (row.Signal 2 0 1)
    ∷ at 2 0 (row.Arrive 0 1 1)
    ∷ at 2 0 (row.Wake 0 0 1 None)
    ∷ at 2 0 (row.Stop 1 why.Preempt 1 None)
    ∷ at 2 0 (row.Run 0)
    ∷ at 2 1 (row.Signal 2 0 1)
    ∷ at 3 0 (row.Round 0 1 1)
    ∷ at 3 0 (row.Arrive 0 1 1)
    ∷ at 3 0 (row.Hold 0 1)
    ∷ at 3 1 (row.Signal 2 0 1)
    ∷ at 4 0 (row.Got 0 0 1)
    ∷ at 4 0 (row.Stop 0 why.Spent 2 (Some 10))
    ∷ at 4 0 (row.Arrive 0 1 1)
    ∷ at 4 0 (row.Hold 0 1)
    ∷ at 4 0 (row.Run 1)
    ∷ at 4 1 (row.Signal 2 0 1)
    ∷ at 5 0 (row.Arrive 0 1 1)
    ∷ at 5 0 (row.Hold 0 1)
    ∷ at 5 1 (row.Signal 2 0 1)
    ∷ at 6 0 (row.Arrive 0 1 1)
    ∷ at 6 0 (row.Hold 0 1)
    ∷ at 6 1 (row.Signal 2 0 1)
    ∷ at 6 1 (row.Round 2 1 6)
    ∷ at 6 1 (row.Stop 2 why.Done 6 None)
    ∷ at 7 0 (row.Arrive 0 1 1)
    ∷ at 7 0 (row.Hold 0 1)
    ∷ at 10 0 (row.Release 0)
    ∷ at 10 0 (row.Stop 1 why.Preempt 6 None)
    ∷ at 10 0 (row.Run 0)
    ∷ at 11 0 (row.Round 0 2 7)
    ∷ at 11 0 (row.Stop 0 why.Spent 1 (Some 12))
    ∷ at 11 0 (row.Run 1)
    ∷ at 12 0 (row.Round 1 1 12)
    ∷ at 12 0 (row.Stop 1 why.Done 1 None)
    ∷ at 12 0 (row.Release 0)
    ∷ at 12 0 (row.Run 0)
    ∷ at 13 0 (row.Got 0 0 1)
    ∷ at 14 0 (row.Round 0 3 1)
    ∷ at 14 0 (row.Stop 0 why.Spent 2 (Some 20))
    ∷ at 20 0 (row.Release 0)
    ∷ at 20 0 (row.Run 0)
    ∷ []

storm_of_interrupts : schedule storm_of_interrupts_system 20 ≡ storm_of_interrupts_rows
storm_of_interrupts = refl

abbrev pub two_cores_signal_each_other_system : System
two_cores_signal_each_other_system = record {
  cores = 2;
  delay = 3;
  call = 1;
  min_budget = 1;
  contexts =
      context (codes "left") 0 5 20 0
      ∷ context (codes "right") 1 5 20 0
      ∷ [];
  notes =
      note (codes "ping") 1
      ∷ note (codes "pong") 0
      ∷ [];
  threads =
      thread (codes "Left") 0 5 0 1 0 ((Signal 0 1) ∷ (Wait 1) ∷ (Compute 1) ∷ [])
      ∷ thread (codes "Right") 1 5 0 1 0 ((Wait 0) ∷ (Compute 1) ∷ (Signal 1 2) ∷ [])
      ∷ [];
  orders = [];
  links = [];
  servers = 0;
  sources = [];
  beats = [];
  chains = [];
}

abbrev pub two_cores_signal_each_other_rows : List Row
two_cores_signal_each_other_rows =
    at 0 0 (row.Release 0)
    ∷ at 0 0 (row.Run 0)
    ∷ at 0 1 (row.Release 1)
    ∷ at 0 1 (row.Run 1)
    ∷ at 1 0 (row.Signal 0 0 1)
    ∷ at 1 1 (row.Stop 1 why.Wait 1 None)
    ∷ at 2 0 (row.Stop 0 why.Wait 2 None)
    ∷ at 4 1 (row.Arrive 0 1 0)
    ∷ at 4 1 (row.Wake 1 0 1 None)
    ∷ at 4 1 (row.Run 1)
    ∷ at 6 1 (row.Signal 1 1 2)
    ∷ at 6 1 (row.Round 1 1 2)
    ∷ at 6 1 (row.Stop 1 why.Done 2 None)
    ∷ at 9 0 (row.Arrive 1 2 1)
    ∷ at 9 0 (row.Wake 0 1 2 None)
    ∷ at 9 0 (row.Run 0)
    ∷ at 10 0 (row.Round 0 1 10)
    ∷ at 10 0 (row.Stop 0 why.Done 1 None)
    ∷ []

two_cores_signal_each_other : schedule two_cores_signal_each_other_system 20 ≡ two_cores_signal_each_other_rows
two_cores_signal_each_other = refl

abbrev pub two_orders_at_one_moment_system : System
two_orders_at_one_moment_system = record {
  cores = 1;
  delay = 1;
  call = 1;
  min_budget = 1;
  contexts =
      context (codes "a") 0 10 100 0
      ∷ [];
  notes = [];
  threads = [];
  orders =
      order 4 0 6 50 0
      ∷ order 4 0 8 40 0
      ∷ [];
  links = [];
  servers = 0;
  sources = [];
  beats = [];
  chains = [];
}

abbrev pub two_orders_at_one_moment_rows : List Row
two_orders_at_one_moment_rows =
    at 4 0 (row.Order 0)
    ∷ at 4 0 (row.Order 0)
    ∷ []

two_orders_at_one_moment : schedule two_orders_at_one_moment_system 4 ≡ two_orders_at_one_moment_rows
two_orders_at_one_moment = refl

abbrev pub wait_takes_a_held_word_system : System
wait_takes_a_held_word_system = record {
  cores = 1;
  delay = 1;
  call = 1;
  min_budget = 1;
  contexts =
      context (codes "s") 0 5 10 0
      ∷ context (codes "w") 0 5 10 0
      ∷ [];
  notes =
      note (codes "n") 0
      ∷ [];
  threads =
      thread (codes "S") 0 9 0 1 0 ((Signal 0 1) ∷ (Signal 0 6) ∷ [])
      ∷ thread (codes "W") 1 1 0 1 0 ((Wait 0) ∷ (Compute 1) ∷ [])
      ∷ [];
  orders = [];
  links = [];
  servers = 0;
  sources = [];
  beats = [];
  chains = [];
}

abbrev pub wait_takes_a_held_word_rows : List Row
wait_takes_a_held_word_rows =
    at 0 0 (row.Release 0)
    ∷ at 0 0 (row.Release 1)
    ∷ at 0 0 (row.Run 0)
    ∷ at 1 0 (row.Signal 0 0 1)
    ∷ at 1 0 (row.Hold 0 1)
    ∷ at 2 0 (row.Signal 0 0 6)
    ∷ at 2 0 (row.Hold 0 7)
    ∷ at 2 0 (row.Round 0 1 2)
    ∷ at 2 0 (row.Stop 0 why.Done 2 None)
    ∷ at 2 0 (row.Run 1)
    ∷ at 3 0 (row.Got 1 0 7)
    ∷ at 4 0 (row.Round 1 1 1)
    ∷ at 4 0 (row.Stop 1 why.Done 2 None)
    ∷ []

wait_takes_a_held_word : schedule wait_takes_a_held_word_system 4 ≡ wait_takes_a_held_word_rows
wait_takes_a_held_word = refl

abbrev pub wake_preempts_system : System
wake_preempts_system = record {
  cores = 1;
  delay = 1;
  call = 1;
  min_budget = 1;
  contexts =
      context (codes "a") 0 10 100 0
      ∷ context (codes "b") 0 10 100 0
      ∷ context (codes "c") 0 5 50 0
      ∷ [];
  notes =
      note (codes "n") 0
      ∷ [];
  threads =
      thread (codes "A") 0 5 0 1 0 ((Compute 2) ∷ (Signal 0 1) ∷ (Compute 4) ∷ [])
      ∷ thread (codes "B") 1 5 0 1 0 ((Compute 2) ∷ [])
      ∷ thread (codes "C") 2 9 0 1 0 ((Wait 0) ∷ (Compute 1) ∷ [])
      ∷ [];
  orders = [];
  links = [];
  servers = 0;
  sources = [];
  beats = [];
  chains = [];
}

abbrev pub wake_preempts_rows : List Row
wake_preempts_rows =
    at 0 0 (row.Release 0)
    ∷ at 0 0 (row.Release 1)
    ∷ at 0 0 (row.Release 2)
    ∷ at 0 0 (row.Run 2)
    ∷ at 1 0 (row.Stop 2 why.Wait 1 None)
    ∷ at 1 0 (row.Run 0)
    ∷ at 4 0 (row.Signal 0 0 1)
    ∷ at 4 0 (row.Wake 2 0 1 None)
    ∷ at 4 0 (row.Stop 0 why.Preempt 3 None)
    ∷ at 4 0 (row.Run 2)
    ∷ at 5 0 (row.Round 2 1 1)
    ∷ at 5 0 (row.Stop 2 why.Done 1 None)
    ∷ at 5 0 (row.Run 0)
    ∷ at 9 0 (row.Round 0 1 9)
    ∷ at 9 0 (row.Stop 0 why.Done 4 None)
    ∷ at 9 0 (row.Run 1)
    ∷ at 11 0 (row.Round 1 1 11)
    ∷ at 11 0 (row.Stop 1 why.Done 2 None)
    ∷ []

wake_preempts : schedule wake_preempts_system 11 ≡ wake_preempts_rows
wake_preempts = refl

abbrev pub woken_but_not_ready_system : System
woken_but_not_ready_system = record {
  cores = 1;
  delay = 1;
  call = 1;
  min_budget = 1;
  contexts =
      context (codes "w") 0 1 10 0
      ∷ context (codes "s") 0 9 20 0
      ∷ [];
  notes =
      note (codes "n") 0
      ∷ [];
  threads =
      thread (codes "W") 0 9 0 1 0 ((Wait 0) ∷ (Compute 1) ∷ [])
      ∷ thread (codes "S") 1 5 0 1 0 ((Signal 0 1) ∷ [])
      ∷ [];
  orders = [];
  links = [];
  servers = 0;
  sources = [];
  beats = [];
  chains = [];
}

abbrev pub woken_but_not_ready_rows : List Row
woken_but_not_ready_rows =
    at 0 0 (row.Release 0)
    ∷ at 0 0 (row.Release 1)
    ∷ at 0 0 (row.Run 0)
    ∷ at 1 0 (row.Stop 0 why.Wait 1 None)
    ∷ at 1 0 (row.Run 1)
    ∷ at 2 0 (row.Signal 1 0 1)
    ∷ at 2 0 (row.Wake 0 0 1 (Some 10))
    ∷ at 2 0 (row.Round 1 1 2)
    ∷ at 2 0 (row.Stop 1 why.Done 1 None)
    ∷ at 10 0 (row.Release 0)
    ∷ at 10 0 (row.Run 0)
    ∷ at 11 0 (row.Round 0 1 9)
    ∷ at 11 0 (row.Stop 0 why.Done 1 None)
    ∷ []

woken_but_not_ready : schedule woken_but_not_ready_system 11 ≡ woken_but_not_ready_rows
woken_but_not_ready = refl

abbrev pub yield_ends_a_round_system : System
yield_ends_a_round_system = record {
  cores = 1;
  delay = 1;
  call = 1;
  min_budget = 1;
  contexts =
      context (codes "sampler") 0 3 10 0
      ∷ context (codes "background") 0 20 20 0
      ∷ [];
  notes = [];
  threads =
      thread (codes "Sampler") 0 9 0 3 0 ((Compute 1) ∷ Yield ∷ [])
      ∷ thread (codes "Background") 1 5 0 1 0 ((Compute 12) ∷ [])
      ∷ [];
  orders = [];
  links = [];
  servers = 0;
  sources = [];
  beats = [];
  chains = [];
}

abbrev pub yield_ends_a_round_rows : List Row
yield_ends_a_round_rows =
    at 0 0 (row.Release 0)
    ∷ at 0 0 (row.Release 1)
    ∷ at 0 0 (row.Run 0)
    ∷ at 2 0 (row.Round 0 1 2)
    ∷ at 2 0 (row.Stop 0 why.Yield 3 (Some 10))
    ∷ at 2 0 (row.Run 1)
    ∷ at 10 0 (row.Release 0)
    ∷ at 10 0 (row.Stop 1 why.Preempt 8 None)
    ∷ at 10 0 (row.Run 0)
    ∷ at 12 0 (row.Round 0 2 10)
    ∷ at 12 0 (row.Stop 0 why.Yield 3 (Some 20))
    ∷ at 12 0 (row.Run 1)
    ∷ at 16 0 (row.Round 1 1 16)
    ∷ at 16 0 (row.Stop 1 why.Done 4 None)
    ∷ at 20 0 (row.Release 0)
    ∷ at 20 0 (row.Run 0)
    ∷ at 22 0 (row.Round 0 3 10)
    ∷ at 22 0 (row.Stop 0 why.Done 2 None)
    ∷ []

yield_ends_a_round : schedule yield_ends_a_round_system 25 ≡ yield_ends_a_round_rows
yield_ends_a_round = refl

abbrev pub yield_gives_the_head_away_system : System
yield_gives_the_head_away_system = record {
  cores = 1;
  delay = 1;
  call = 1;
  min_budget = 1;
  contexts =
      context (codes "a") 0 4 10 0
      ∷ [];
  notes = [];
  threads =
      thread (codes "A") 0 5 0 2 0 ((Compute 1) ∷ Yield ∷ [])
      ∷ [];
  orders = [];
  links = [];
  servers = 0;
  sources = [];
  beats = [];
  chains = [];
}

abbrev pub yield_gives_the_head_away_rows : List Row
yield_gives_the_head_away_rows =
    at 0 0 (row.Release 0)
    ∷ at 0 0 (row.Run 0)
    ∷ at 2 0 (row.Round 0 1 2)
    ∷ at 2 0 (row.Stop 0 why.Yield 4 (Some 10))
    ∷ at 10 0 (row.Release 0)
    ∷ at 10 0 (row.Run 0)
    ∷ at 12 0 (row.Round 0 2 10)
    ∷ at 12 0 (row.Stop 0 why.Done 2 None)
    ∷ []

yield_gives_the_head_away : schedule yield_gives_the_head_away_system 12 ≡ yield_gives_the_head_away_rows
yield_gives_the_head_away = refl
