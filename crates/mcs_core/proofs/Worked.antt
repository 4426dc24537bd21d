-- Three small systems and their schedules, worked by hand from the rules of the turn.
use Rattle.std.specs.Prelude.{◌≡◌, ℕ, List, [], ◌∷◌, Some, None, refl}
use Rattle.mcs_ticks.specs.declared.row.Row.{Row}
use Rattle.mcs_ticks.specs.declared.row.What.{What}
use Rattle.mcs_ticks.specs.declared.row.What.TheVariants as row
use Rattle.mcs_ticks.specs.declared.row.Why.TheVariants as why
use Rattle.mcs_script.specs.declared.item.Item.{Item}
use Rattle.mcs_script.specs.declared.item.Item.TheVariants.{Compute, Signal, Wait, On, Enter, Leave}
use Rattle.mcs_control.specs.declared.config.Mode.{Mode}
use Rattle.mcs_control.specs.declared.config.Mode.TheVariants.{Sporadic, Bandwidth}
use Rattle.mcs_system.specs.declared.part.ContextPart.{ContextPart}
use Rattle.mcs_system.specs.declared.part.ThreadPart.{ThreadPart}
use Rattle.mcs_system.specs.System.{System}
use Rattle.mcs_core.specs.Clock.{schedule}

abbrev context_in : Mode → ℕ → ℕ → ℕ → ContextPart
context_in mode core budget period = record { name = []; core = core; config = record { budget = budget; period = period; extra = 0 }; mode = mode }

abbrev context : ℕ → ℕ → ℕ → ContextPart
context core budget period = context_in Sporadic core budget period

-- a thread: its context, priority, start and script, which it runs once
abbrev thread : ℕ → ℕ → ℕ → List Item → ThreadPart
thread context priority start script =
    record { name = []; context = context; priority = priority; start = start; rounds = 1; deadline = 0; script = script }

abbrev at : ℕ → ℕ → What → Row
at moment core what = record { moment = moment; core = core; what = what }

-- Thread 0 blocks at 1 and is woken by the signal that thread 2 makes at 3 on the other core and that arrives at 5. Thread 1 starts
-- late and spends its budget, which returns at 6. The order at 4 is for the context of thread 2, on core 1 alone.
abbrev two_cores : System
two_cores = record {
  cores = 2;
  delay = 2;
  call = 1;
  min_budget = 1;
  contexts = context 0 3 10 ∷ context 0 2 5 ∷ context 1 5 10 ∷ [];
  notes = record { name = []; core = 0; word = 0 } ∷ [];
  threads =
      thread 0 7 0 (Wait 0 ∷ Compute 1 ∷ [])
      ∷ thread 1 5 1 (Compute 3 ∷ [])
      ∷ thread 2 5 1 (Compute 1 ∷ Signal 0 5 ∷ Compute 9 ∷ [])
      ∷ [];
  orders = record { moment = 4; context = 2; config = record { budget = 4; period = 10; extra = 0 } } ∷ [];
  links = [];
  servers = 0;
  sources = [];
  beats = [];
  chains = [];
}

two_cores_at_work : schedule two_cores 7 ≡
    at 0 0 (row.Release 0)
    ∷ at 0 0 (row.Run 0)
    ∷ at 1 0 (row.Stop 0 why.Wait 1 None)
    ∷ at 1 0 (row.Release 1)
    ∷ at 1 0 (row.Run 1)
    ∷ at 1 1 (row.Release 2)
    ∷ at 1 1 (row.Run 2)
    ∷ at 3 0 (row.Stop 1 why.Spent 2 (Some 6))
    ∷ at 3 1 (row.Signal 2 0 5)
    ∷ at 4 1 (row.Order 2)
    ∷ at 4 1 (row.Stop 2 why.Order 3 None)
    ∷ at 4 1 (row.Run 2)
    ∷ at 5 0 (row.Arrive 0 5 1)
    ∷ at 5 0 (row.Wake 0 0 5 None)
    ∷ at 5 0 (row.Run 0)
    ∷ at 6 0 (row.Round 0 1 1)
    ∷ at 6 0 (row.Stop 0 why.Done 1 None)
    ∷ at 6 0 (row.Release 1)
    ∷ at 6 0 (row.Run 1)
    ∷ at 6 1 (row.Stop 2 why.Spent 2 (Some 12))
    ∷ at 7 0 (row.Round 1 1 6)
    ∷ at 7 0 (row.Stop 1 why.Done 1 None)
    ∷ []
two_cores_at_work = refl

-- Threads 0 and 1 have one priority, so they take turns only if one stops for another reason. Thread 2 has a greater one: the
-- thread that it preempts goes to the front and runs again before thread 1. Threads 3 and 4 have one priority, too: the signal of
-- thread 3 wakes thread 4 before thread 3 stops at that moment, so thread 4 runs before it.
abbrev one_core : System
one_core = record {
  cores = 1;
  delay = 1;
  call = 1;
  min_budget = 1;
  contexts = context 0 9 20 ∷ context 0 9 20 ∷ context 0 9 20 ∷ context 0 2 2 ∷ context 0 9 20 ∷ [];
  notes = record { name = []; core = 0; word = 0 } ∷ [];
  threads =
      thread 0 5 0 (Compute 4 ∷ [])
      ∷ thread 1 5 0 (Compute 1 ∷ [])
      ∷ thread 2 9 2 (Compute 1 ∷ [])
      ∷ thread 3 1 7 (Compute 1 ∷ Signal 0 1 ∷ Compute 1 ∷ [])
      ∷ thread 4 1 6 (Wait 0 ∷ Compute 1 ∷ [])
      ∷ [];
  orders = [];
  links = [];
  servers = 0;
  sources = [];
  beats = [];
  chains = [];
}

one_core_at_work : schedule one_core 11 ≡
    at 0 0 (row.Release 0)
    ∷ at 0 0 (row.Release 1)
    ∷ at 0 0 (row.Run 0)
    ∷ at 2 0 (row.Release 2)
    ∷ at 2 0 (row.Stop 0 why.Preempt 2 None)
    ∷ at 2 0 (row.Run 2)
    ∷ at 3 0 (row.Round 2 1 1)
    ∷ at 3 0 (row.Stop 2 why.Done 1 None)
    ∷ at 3 0 (row.Run 0)
    ∷ at 5 0 (row.Round 0 1 5)
    ∷ at 5 0 (row.Stop 0 why.Done 2 None)
    ∷ at 5 0 (row.Run 1)
    ∷ at 6 0 (row.Round 1 1 6)
    ∷ at 6 0 (row.Stop 1 why.Done 1 None)
    ∷ at 6 0 (row.Release 4)
    ∷ at 6 0 (row.Run 4)
    ∷ at 7 0 (row.Stop 4 why.Wait 1 None)
    ∷ at 7 0 (row.Release 3)
    ∷ at 7 0 (row.Run 3)
    ∷ at 9 0 (row.Signal 3 0 1)
    ∷ at 9 0 (row.Wake 4 0 1 None)
    ∷ at 9 0 (row.Stop 3 why.Spent 2 None)
    ∷ at 9 0 (row.Run 4)
    ∷ at 10 0 (row.Round 4 1 1)
    ∷ at 10 0 (row.Stop 4 why.Done 1 None)
    ∷ at 10 0 (row.Run 3)
    ∷ at 11 0 (row.Round 3 1 4)
    ∷ at 11 0 (row.Stop 3 why.Done 1 None)
    ∷ []
one_core_at_work = refl

-- The notification is at home on core 1: the signal that core 0 makes at 2 arrives there at 4, and not on core 0, whose turn at 4 comes
-- first.
abbrev from_core_0 : System
from_core_0 = record {
  cores = 2;
  delay = 2;
  call = 1;
  min_budget = 1;
  contexts = context 0 9 20 ∷ context 1 9 20 ∷ [];
  notes = record { name = []; core = 1; word = 0 } ∷ [];
  threads =
      thread 0 5 0 (Compute 1 ∷ Signal 0 4 ∷ [])
      ∷ thread 1 5 0 (Wait 0 ∷ Compute 1 ∷ [])
      ∷ [];
  orders = [];
  links = [];
  servers = 0;
  sources = [];
  beats = [];
  chains = [];
}

a_signal_arrives_at_its_home : schedule from_core_0 5 ≡
    at 0 0 (row.Release 0)
    ∷ at 0 0 (row.Run 0)
    ∷ at 0 1 (row.Release 1)
    ∷ at 0 1 (row.Run 1)
    ∷ at 1 1 (row.Stop 1 why.Wait 1 None)
    ∷ at 2 0 (row.Signal 0 0 4)
    ∷ at 2 0 (row.Round 0 1 2)
    ∷ at 2 0 (row.Stop 0 why.Done 2 None)
    ∷ at 4 1 (row.Arrive 0 4 0)
    ∷ at 4 1 (row.Wake 1 0 4 None)
    ∷ at 4 1 (row.Run 1)
    ∷ at 5 1 (row.Round 1 1 1)
    ∷ at 5 1 (row.Stop 1 why.Done 1 None)
    ∷ []
a_signal_arrives_at_its_home = refl

-- Thread 0 is chosen at 3 for the first time: in bandwidth mode its four ticks count from then on, so they return at 13 and no sooner.
abbrev chosen_late : Mode → System
chosen_late mode = record {
  cores = 1;
  delay = 1;
  call = 1;
  min_budget = 1;
  contexts = context_in mode 0 4 10 ∷ context 0 3 20 ∷ [];
  notes = [];
  threads = thread 0 5 0 (Compute 20 ∷ []) ∷ thread 1 9 0 (Compute 3 ∷ []) ∷ [];
  orders = [];
  links = [];
  servers = 0;
  sources = [];
  beats = [];
  chains = [];
}

bandwidth_unblocks_when_chosen : schedule (chosen_late Bandwidth) 13
    ≡ at 0 0 (row.Release 0) ∷ at 0 0 (row.Release 1) ∷ at 0 0 (row.Run 1) ∷ at 3 0 (row.Round 1 1 3) ∷ at 3 0 (row.Stop 1 why.Done 3 None) ∷ at 3 0 (row.Run 0)
    ∷ at 7 0 (row.Stop 0 why.Spent 4 (Some 13)) ∷ at 13 0 (row.Release 0) ∷ at 13 0 (row.Run 0) ∷ []
bandwidth_unblocks_when_chosen = refl

-- with mode sporadic they count from 0 on
sporadic_does_not : schedule (chosen_late Sporadic) 10
    ≡ at 0 0 (row.Release 0) ∷ at 0 0 (row.Release 1) ∷ at 0 0 (row.Run 1) ∷ at 3 0 (row.Round 1 1 3) ∷ at 3 0 (row.Stop 1 why.Done 3 None) ∷ at 3 0 (row.Run 0)
    ∷ at 7 0 (row.Stop 0 why.Spent 4 (Some 10)) ∷ at 10 0 (row.Release 0) ∷ at 10 0 (row.Run 0) ∷ []
sporadic_does_not = refl

-- Version 3: a thread of handlers, which two sources interrupt. Both do so at 2: it is woken with the badge of the first, and takes that
-- of the second from the word when its round has ended.
abbrev handlers : System
handlers = record {
  cores = 1;
  delay = 1;
  call = 1;
  min_budget = 1;
  contexts = context 0 9 20 ∷ [];
  notes = record { name = []; core = 0; word = 0 } ∷ [];
  threads = record { name = []; context = 0; priority = 5; start = 0; rounds = 0; deadline = 0; script = Wait 0 ∷ On 1 ∷ Compute 2 ∷ On 2 ∷ Compute 3 ∷ [] } ∷ [];
  orders = [];
  links = [];
  servers = 0;
  sources = record { name = []; note = 0; badge = 1 } ∷ record { name = []; note = 0; badge = 2 } ∷ [];
  beats = record { source = 0; first = 2; period = 10; count = 0 } ∷ record { source = 1; first = 2; period = 10; count = 1 } ∷ [];
  chains = [];
}

handlers_at_work : schedule handlers 12 ≡
    at 0 0 (row.Release 0)
    ∷ at 0 0 (row.Run 0)
    ∷ at 1 0 (row.Stop 0 why.Wait 1 None)
    ∷ at 2 0 (row.Interrupt 0 0 1)
    ∷ at 2 0 (row.Wake 0 0 1 None)
    ∷ at 2 0 (row.Interrupt 1 0 2)
    ∷ at 2 0 (row.Hold 0 2)
    ∷ at 2 0 (row.Run 0)
    ∷ at 4 0 (row.Round 0 1 2)
    ∷ at 5 0 (row.Got 0 0 2)
    ∷ at 8 0 (row.Round 0 2 3)
    ∷ at 9 0 (row.Stop 0 why.Wait 7 None)
    ∷ at 12 0 (row.Interrupt 0 0 1)
    ∷ at 12 0 (row.Wake 0 0 1 None)
    ∷ at 12 0 (row.Run 0)
    ∷ []
handlers_at_work = refl

-- A server of priority 40 that is taken when a thread of priority 30 calls it: it stops in the middle when the budget of its caller is
-- exhausted, and the thread that waits for it continues when it is left.
abbrev a_server : System
a_server = record {
  cores = 1;
  delay = 1;
  call = 1;
  min_budget = 1;
  contexts = context 0 3 10 ∷ context 0 20 100 ∷ [];
  notes = record { name = []; core = 0; word = 1 } ∷ [];
  threads =
      thread 0 10 0 (Enter 0 40 ∷ Compute 5 ∷ Leave 0 10 ∷ [])
      ∷ thread 1 30 4 (Enter 0 40 ∷ Compute 5 ∷ Leave 0 30 ∷ [])
      ∷ [];
  orders = [];
  links = [];
  servers = 1;
  sources = [];
  beats = [];
  chains = [];
}

a_server_at_work : schedule a_server 22 ≡
    at 0 0 (row.Release 0)
    ∷ at 0 0 (row.Run 0)
    ∷ at 1 0 (row.Got 0 0 1)
    ∷ at 3 0 (row.Stop 0 why.Spent 3 (Some 10))
    ∷ at 4 0 (row.Release 1)
    ∷ at 4 0 (row.Run 1)
    ∷ at 5 0 (row.Stop 1 why.Call 1 None)
    ∷ at 10 0 (row.Release 0)
    ∷ at 10 0 (row.Run 0)
    ∷ at 13 0 (row.Stop 0 why.Spent 3 (Some 20))
    ∷ at 20 0 (row.Release 0)
    ∷ at 20 0 (row.Run 0)
    ∷ at 21 0 (row.Signal 0 0 1)
    ∷ at 21 0 (row.Wake 1 0 1 None)
    ∷ at 21 0 (row.Round 0 1 21)
    ∷ at 21 0 (row.Stop 0 why.Done 1 None)
    ∷ at 21 0 (row.Run 1)
    ∷ []
a_server_at_work = refl

-- Thread 0 spends its one tick of 10 on the wait. The signal at 3 wakes it, and it waits until 10 for its budget.
abbrev a_small_budget : System
a_small_budget = record {
  cores = 1;
  delay = 1;
  call = 1;
  min_budget = 1;
  contexts = context 0 1 10 ∷ context 0 9 20 ∷ [];
  notes = record { name = []; core = 0; word = 0 } ∷ [];
  threads =
      thread 0 7 0 (Wait 0 ∷ Compute 1 ∷ [])
      ∷ thread 1 5 0 (Compute 1 ∷ Signal 0 1 ∷ [])
      ∷ [];
  orders = [];
  links = [];
  servers = 0;
  sources = [];
  beats = [];
  chains = [];
}

a_woken_thread_waits_for_its_budget : schedule a_small_budget 11 ≡
    at 0 0 (row.Release 0)
    ∷ at 0 0 (row.Release 1)
    ∷ at 0 0 (row.Run 0)
    ∷ at 1 0 (row.Stop 0 why.Wait 1 None)
    ∷ at 1 0 (row.Run 1)
    ∷ at 3 0 (row.Signal 1 0 1)
    ∷ at 3 0 (row.Wake 0 0 1 (Some 10))
    ∷ at 3 0 (row.Round 1 1 3)
    ∷ at 3 0 (row.Stop 1 why.Done 2 None)
    ∷ at 10 0 (row.Release 0)
    ∷ at 10 0 (row.Run 0)
    ∷ at 11 0 (row.Round 0 1 8)
    ∷ at 11 0 (row.Stop 0 why.Done 1 None)
    ∷ []
a_woken_thread_waits_for_its_budget = refl

-- The server as above, whose second caller has spent its one tick of 50 on the call at 4: it is let in at 21, and waits until 54.
a_caller_that_is_let_in_waits_for_its_budget : schedule (record a_server { contexts = context 0 3 10 ∷ context 0 1 50 ∷ [] }) 54 ≡
    at 0 0 (row.Release 0)
    ∷ at 0 0 (row.Run 0)
    ∷ at 1 0 (row.Got 0 0 1)
    ∷ at 3 0 (row.Stop 0 why.Spent 3 (Some 10))
    ∷ at 4 0 (row.Release 1)
    ∷ at 4 0 (row.Run 1)
    ∷ at 5 0 (row.Stop 1 why.Call 1 None)
    ∷ at 10 0 (row.Release 0)
    ∷ at 10 0 (row.Run 0)
    ∷ at 13 0 (row.Stop 0 why.Spent 3 (Some 20))
    ∷ at 20 0 (row.Release 0)
    ∷ at 20 0 (row.Run 0)
    ∷ at 21 0 (row.Signal 0 0 1)
    ∷ at 21 0 (row.Wake 1 0 1 (Some 54))
    ∷ at 21 0 (row.Round 0 1 21)
    ∷ at 21 0 (row.Stop 0 why.Done 1 None)
    ∷ at 54 0 (row.Release 1)
    ∷ at 54 0 (row.Run 1)
    ∷ []
a_caller_that_is_let_in_waits_for_its_budget = refl
