-- Small systems, each for one rule of orders, with the rows that the rule gives.
use Rattle.std.specs.Prelude.{◌≡◌, [], ◌∷◌, Some, None, refl, codes}
use Rattle.mcs_ticks.specs.declared.row.What.TheVariants as row
use Rattle.mcs_ticks.specs.declared.row.Why.TheVariants as why
use Rattle.mcs_script.specs.declared.item.Item.TheVariants.{Compute, Signal, Wait, Yield}
use Rattle.mcs_system.specs.System.{System}
use Rattle.mcs_core.specs.Clock.{schedule}
use Rattle.mcs_worked.specs.Parts.{context, note, thread, order, at, one_core, two_cores}

-- The running thread is charged by the configuration in force before the order is applied. The head
-- of 3 ticks that the charge leaves is less than the minimum and joins the refill at 100. The
-- thread must wait for its context until 97, and the order keeps that moment.
abbrev order_charges_first_system : System
order_charges_first_system =
    record (one_core (context (codes "a") 0 10 100 0 ∷ []) [] (thread (codes "A") 0 5 0 1 0 (Compute 20 ∷ []) ∷ []) (order 7 0 8 50 0 ∷ [])) { min_budget = 4 }

order_charges_first : schedule order_charges_first_system 105 ≡
    at 0 0 (row.Release 0)
    ∷ at 0 0 (row.Run 0)
    ∷ at 7 0 (row.Order 0)
    ∷ at 7 0 (row.Stop 0 why.Order 7 (Some 97))
    ∷ at 97 0 (row.Release 0)
    ∷ at 97 0 (row.Run 0)
    ∷ at 105 0 (row.Stop 0 why.Spent 8 (Some 147))
    ∷ []
order_charges_first = refl

-- Orders of one moment are obeyed in file order, whatever stands between them. The second of two meets a thread that no longer
-- runs: no charge and no stop. At 12 the thread is in the release queue: its context changes and its date, 42, stays. The order
-- at 46 lies after the horizon and never comes.
abbrev orders_in_file_order_system : System
orders_in_file_order_system =
    one_core (context (codes "a") 0 10 100 0 ∷ []) [] (thread (codes "A") 0 5 0 1 0 (Compute 20 ∷ []) ∷ [])
    (order 46 0 1 9 0 ∷ order 12 0 3 30 0 ∷ order 4 0 6 50 0 ∷ order 4 0 8 40 0 ∷ [])

orders_in_file_order : schedule orders_in_file_order_system 45 ≡
    at 0 0 (row.Release 0)
    ∷ at 0 0 (row.Run 0)
    ∷ at 4 0 (row.Order 0)
    ∷ at 4 0 (row.Stop 0 why.Order 4 None)
    ∷ at 4 0 (row.Order 0)
    ∷ at 4 0 (row.Run 0)
    ∷ at 10 0 (row.Stop 0 why.Spent 6 (Some 42))
    ∷ at 12 0 (row.Order 0)
    ∷ at 42 0 (row.Release 0)
    ∷ at 42 0 (row.Run 0)
    ∷ at 45 0 (row.Stop 0 why.Spent 3 (Some 72))
    ∷ []
orders_in_file_order = refl

-- For a ready thread an order changes its context alone: at 2 the budget of 4 becomes 2, usable from 2 on.
abbrev order_for_a_ready_thread_system : System
order_for_a_ready_thread_system =
    one_core (context (codes "a") 0 10 20 0 ∷ context (codes "b") 0 4 20 0 ∷ []) []
    (thread (codes "A") 0 5 0 1 0 (Compute 3 ∷ []) ∷ thread (codes "B") 1 1 0 1 0 (Compute 4 ∷ []) ∷ []) (order 2 1 2 20 0 ∷ [])

order_for_a_ready_thread : schedule order_for_a_ready_thread_system 5 ≡
    at 0 0 (row.Release 0)
    ∷ at 0 0 (row.Release 1)
    ∷ at 0 0 (row.Run 0)
    ∷ at 2 0 (row.Order 1)
    ∷ at 3 0 (row.Round 0 1 3)
    ∷ at 3 0 (row.Stop 0 why.Done 3 None)
    ∷ at 3 0 (row.Run 1)
    ∷ at 5 0 (row.Stop 1 why.Spent 2 (Some 22))
    ∷ []
order_for_a_ready_thread = refl

-- For a blocked thread, too, it changes the context alone: woken at 5, the thread has the 2 ticks
-- that the order at 3 left it, and they return a new period after 5. This also holds for a thread that is done and for a context without a thread, in file order.
abbrev order_for_a_blocked_thread_system : System
order_for_a_blocked_thread_system =
    one_core (context (codes "w") 0 5 20 0 ∷ context (codes "s") 0 9 20 0 ∷ context (codes "x") 0 5 20 0 ∷ []) (note (codes "n") 0 ∷ [])
    (thread (codes "W") 0 9 0 1 0 (Wait 0 ∷ Compute 4 ∷ []) ∷ thread (codes "S") 1 1 0 1 0 (Compute 3 ∷ Signal 0 1 ∷ Compute 1 ∷ []) ∷ [])
    (order 3 0 2 30 0 ∷ order 9 2 1 9 0 ∷ order 9 1 2 9 0 ∷ [])

order_for_a_blocked_thread : schedule order_for_a_blocked_thread_system 9 ≡
    at 0 0 (row.Release 0)
    ∷ at 0 0 (row.Release 1)
    ∷ at 0 0 (row.Run 0)
    ∷ at 1 0 (row.Stop 0 why.Wait 1 None)
    ∷ at 1 0 (row.Run 1)
    ∷ at 3 0 (row.Order 0)
    ∷ at 5 0 (row.Signal 1 0 1)
    ∷ at 5 0 (row.Wake 0 0 1 None)
    ∷ at 5 0 (row.Stop 1 why.Preempt 4 None)
    ∷ at 5 0 (row.Run 0)
    ∷ at 7 0 (row.Stop 0 why.Spent 2 (Some 35))
    ∷ at 7 0 (row.Run 1)
    ∷ at 8 0 (row.Round 1 1 8)
    ∷ at 8 0 (row.Stop 1 why.Done 1 None)
    ∷ at 9 0 (row.Order 2)
    ∷ at 9 0 (row.Order 1)
    ∷ []
order_for_a_blocked_thread = refl

-- An order at the moment of a thread's stop comes after that stop, and
-- stops no thread: here a thread that is done at 2, one that blocks at 3, and one that yields at 4.
abbrev order_after_the_stop_system : System
order_after_the_stop_system =
    one_core (context (codes "a") 0 4 20 0 ∷ context (codes "b") 0 4 20 0 ∷ context (codes "c") 0 4 20 0 ∷ []) (note (codes "n") 0 ∷ [])
    (
    thread (codes "A") 0 9 0 1 0 (Compute 2 ∷ [])
    ∷ thread (codes "B") 1 5 0 1 0 (Wait 0 ∷ Compute 1 ∷ [])
    ∷ thread (codes "C") 2 1 0 1 0 (Yield ∷ Compute 1 ∷ [])
    ∷ []
    ) (order 2 0 3 30 0 ∷ order 3 1 3 30 0 ∷ order 4 2 3 30 0 ∷ [])

order_after_the_stop : schedule order_after_the_stop_system 21 ≡
    at 0 0 (row.Release 0)
    ∷ at 0 0 (row.Release 1)
    ∷ at 0 0 (row.Release 2)
    ∷ at 0 0 (row.Run 0)
    ∷ at 2 0 (row.Round 0 1 2)
    ∷ at 2 0 (row.Stop 0 why.Done 2 None)
    ∷ at 2 0 (row.Order 0)
    ∷ at 2 0 (row.Run 1)
    ∷ at 3 0 (row.Stop 1 why.Wait 1 None)
    ∷ at 3 0 (row.Order 1)
    ∷ at 3 0 (row.Run 2)
    ∷ at 4 0 (row.Stop 2 why.Yield 4 (Some 20))
    ∷ at 4 0 (row.Order 2)
    ∷ at 20 0 (row.Release 2)
    ∷ at 20 0 (row.Run 2)
    ∷ at 21 0 (row.Round 2 1 21)
    ∷ at 21 0 (row.Stop 2 why.Done 1 None)
    ∷ []
order_after_the_stop = refl

-- This also holds at the moment at which the budget is exhausted.
abbrev order_after_a_spent_budget_system : System
order_after_a_spent_budget_system =
    one_core (context (codes "a") 0 3 10 0 ∷ []) [] (thread (codes "A") 0 5 0 1 0 (Compute 9 ∷ []) ∷ []) (order 3 0 2 8 0 ∷ [])

order_after_a_spent_budget : schedule order_after_a_spent_budget_system 12 ≡
    at 0 0 (row.Release 0)
    ∷ at 0 0 (row.Run 0)
    ∷ at 3 0 (row.Stop 0 why.Spent 3 (Some 10))
    ∷ at 3 0 (row.Order 0)
    ∷ at 10 0 (row.Release 0)
    ∷ at 10 0 (row.Run 0)
    ∷ at 12 0 (row.Stop 0 why.Spent 2 (Some 18))
    ∷ []
order_after_a_spent_budget = refl

-- An order at 0 comes before the releases of 0.
abbrev order_at_the_first_moment_system : System
order_at_the_first_moment_system =
    one_core (context (codes "a") 0 5 20 0 ∷ []) [] (thread (codes "A") 0 5 0 1 0 (Compute 9 ∷ []) ∷ []) (order 0 0 3 10 0 ∷ [])

order_at_the_first_moment : schedule order_at_the_first_moment_system 3 ≡
    at 0 0 (row.Order 0)
    ∷ at 0 0 (row.Release 0)
    ∷ at 0 0 (row.Run 0)
    ∷ at 3 0 (row.Stop 0 why.Spent 3 (Some 10))
    ∷ []
order_at_the_first_moment = refl

-- A thread that an order stops goes to the front of its ready queue: it runs again before the other of its priority.
abbrev ordered_to_the_front_system : System
ordered_to_the_front_system =
    one_core (context (codes "a") 0 5 20 0 ∷ context (codes "b") 0 5 20 0 ∷ []) []
    (thread (codes "A") 0 5 0 1 0 (Compute 3 ∷ []) ∷ thread (codes "B") 1 5 0 1 0 (Compute 1 ∷ []) ∷ []) (order 2 0 4 20 0 ∷ [])

ordered_to_the_front : schedule ordered_to_the_front_system 4 ≡
    at 0 0 (row.Release 0)
    ∷ at 0 0 (row.Release 1)
    ∷ at 0 0 (row.Run 0)
    ∷ at 2 0 (row.Order 0)
    ∷ at 2 0 (row.Stop 0 why.Order 2 None)
    ∷ at 2 0 (row.Run 0)
    ∷ at 3 0 (row.Round 0 1 3)
    ∷ at 3 0 (row.Stop 0 why.Done 1 None)
    ∷ at 3 0 (row.Run 1)
    ∷ at 4 0 (row.Round 1 1 4)
    ∷ at 4 0 (row.Stop 1 why.Done 1 None)
    ∷ []
ordered_to_the_front = refl

-- An order limits what is left of a slice to the new budget: 4 were left at 2, and 3 are left then.
-- A greater budget shows first at the next full slice: at 6 two were left, and 9 are there from 8
-- on.
abbrev order_for_a_slice_system : System
order_for_a_slice_system =
    one_core (context (codes "a") 0 6 6 0 ∷ []) [] (thread (codes "A") 0 5 0 1 0 (Compute 30 ∷ []) ∷ []) (order 2 0 3 3 0 ∷ order 6 0 9 9 0 ∷ [])

order_for_a_slice : schedule order_for_a_slice_system 17 ≡
    at 0 0 (row.Release 0)
    ∷ at 0 0 (row.Run 0)
    ∷ at 2 0 (row.Order 0)
    ∷ at 2 0 (row.Stop 0 why.Order 2 None)
    ∷ at 2 0 (row.Run 0)
    ∷ at 5 0 (row.Stop 0 why.Spent 3 None)
    ∷ at 5 0 (row.Run 0)
    ∷ at 6 0 (row.Order 0)
    ∷ at 6 0 (row.Stop 0 why.Order 1 None)
    ∷ at 6 0 (row.Run 0)
    ∷ at 8 0 (row.Stop 0 why.Spent 2 None)
    ∷ at 8 0 (row.Run 0)
    ∷ at 17 0 (row.Stop 0 why.Spent 9 None)
    ∷ at 17 0 (row.Run 0)
    ∷ []
order_for_a_slice = refl

-- Only the core of the context obeys an order.
abbrev order_on_its_own_core_system : System
order_on_its_own_core_system =
    two_cores (context (codes "a") 0 5 20 0 ∷ context (codes "b") 1 5 20 0 ∷ []) []
    (thread (codes "A") 0 5 0 1 0 (Compute 4 ∷ []) ∷ thread (codes "B") 1 5 0 1 0 (Compute 4 ∷ []) ∷ []) (order 2 1 4 20 0 ∷ [])

order_on_its_own_core : schedule order_on_its_own_core_system 4 ≡
    at 0 0 (row.Release 0)
    ∷ at 0 0 (row.Run 0)
    ∷ at 0 1 (row.Release 1)
    ∷ at 0 1 (row.Run 1)
    ∷ at 2 1 (row.Order 1)
    ∷ at 2 1 (row.Stop 1 why.Order 2 None)
    ∷ at 2 1 (row.Run 1)
    ∷ at 4 0 (row.Round 0 1 4)
    ∷ at 4 0 (row.Stop 0 why.Done 4 None)
    ∷ at 4 1 (row.Round 1 1 4)
    ∷ at 4 1 (row.Stop 1 why.Done 2 None)
    ∷ []
order_on_its_own_core = refl
