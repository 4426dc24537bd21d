-- Small systems of event loops, servers, interrupts and guests, each for one rule, with the rows that the rule gives.
use Rattle.std.specs.Prelude.{◌≡◌, [], ◌∷◌, Some, None, refl, codes}
use Rattle.mcs_ticks.specs.declared.row.What.TheVariants as row
use Rattle.mcs_ticks.specs.declared.row.Why.TheVariants as why
use Rattle.mcs_script.specs.declared.item.Item.TheVariants.{Compute, Wait, On, Spin, Enter, Leave}
use Rattle.mcs_system.specs.System.{System}
use Rattle.mcs_core.specs.Clock.{schedule}
use Rattle.mcs_worked.specs.Parts.{context, note, server, thread, source, beat, at, one_core}

-- Two sources interrupt at 2. The thread is woken with the badge of the first, and runs only its
-- handler; the badge of the second is held, and taken by the next round, which runs the other
-- handler. The second source has one date.
abbrev two_handlers_system : System
two_handlers_system =
    record (one_core (context (codes "d") 0 9 20 0 ∷ []) (note (codes "n") 0 ∷ [])
    (thread (codes "D") 0 5 0 0 0 (Wait 0 ∷ On 1 ∷ Compute 2 ∷ On 2 ∷ Compute 3 ∷ []) ∷ []) []) {
      sources = source (codes "s") 0 1 ∷ source (codes "k") 0 2 ∷ [];
      beats = beat 0 2 10 0 ∷ beat 1 2 10 1 ∷ [];
    }

two_handlers : schedule two_handlers_system 12 ≡
    at 0 0 (row.Release 0)
    ∷ at 0 0 (row.Run 0)
    ∷ at 1 0 (row.Stop 0 why.Wait 1 None)
    ∷ at 2 0 (row.Interrupt 0 0 1)
    ∷ at 2 0 (row.Wake 0 0 1 None)
    ∷ at 2 0 (row.Interrupt 1 0 2)
    ∷ at 2 0 (row.Hold 0 2)
    ∷ at 2 0 (row.Run 0)
    ∷ at 4 0 (row.Round 0 1 2)
    ∷ at 5 0 (row.Got 0 0 2)
    ∷ at 8 0 (row.Round 0 2 3)
    ∷ at 9 0 (row.Stop 0 why.Wait 7 None)
    ∷ at 12 0 (row.Interrupt 0 0 1)
    ∷ at 12 0 (row.Wake 0 0 1 None)
    ∷ at 12 0 (row.Run 0)
    ∷ []
two_handlers = refl

-- No handler takes badge 4: the thread is at its wait again, and no round ends.
abbrev nobodys_badge_system : System
nobodys_badge_system =
    record (one_core (context (codes "d") 0 9 20 0 ∷ []) (note (codes "n") 0 ∷ [])
    (thread (codes "D") 0 5 0 0 0 (Wait 0 ∷ On 1 ∷ Compute 2 ∷ On 2 ∷ Compute 3 ∷ []) ∷ []) []) {
      sources = source (codes "k") 0 4 ∷ [];
      beats = beat 0 2 10 1 ∷ [];
    }

nobodys_badge : schedule nobodys_badge_system 4 ≡
    at 0 0 (row.Release 0)
    ∷ at 0 0 (row.Run 0)
    ∷ at 1 0 (row.Stop 0 why.Wait 1 None)
    ∷ at 2 0 (row.Interrupt 0 0 4)
    ∷ at 2 0 (row.Wake 0 0 4 None)
    ∷ at 2 0 (row.Run 0)
    ∷ at 3 0 (row.Stop 0 why.Wait 1 None)
    ∷ []
nobodys_badge = refl

-- L runs at the server's priority of 40 from 1 to 6, so neither H, of priority 30, nor M, of 20,
-- stops it. The server's ticks are charged to its caller.
abbrev a_server_on_its_callers_budget_system : System
a_server_on_its_callers_budget_system =
    record (one_core (context (codes "l") 0 20 100 0 ∷ context (codes "h") 0 20 100 0 ∷ context (codes "m") 0 60 100 0 ∷ []) (server (codes "v") 0 ∷ [])
    (thread (codes "L") 0 10 0 1 0 (Enter 0 40 ∷ Compute 4 ∷ Leave 0 10 ∷ [])
    ∷ thread (codes "H") 1 30 2 1 0 (Enter 0 40 ∷ Compute 4 ∷ Leave 0 30 ∷ Compute 1 ∷ [])
    ∷ thread (codes "M") 2 20 2 1 0 (Compute 5 ∷ []) ∷ []) []) { servers = 1 }

a_server_on_its_callers_budget : schedule a_server_on_its_callers_budget_system 20 ≡
    at 0 0 (row.Release 0)
    ∷ at 0 0 (row.Run 0)
    ∷ at 1 0 (row.Got 0 0 1)
    ∷ at 2 0 (row.Release 1)
    ∷ at 2 0 (row.Release 2)
    ∷ at 6 0 (row.Signal 0 0 1)
    ∷ at 6 0 (row.Round 0 1 6)
    ∷ at 6 0 (row.Stop 0 why.Done 6 None)
    ∷ at 6 0 (row.Run 1)
    ∷ at 7 0 (row.Got 1 0 1)
    ∷ at 12 0 (row.Signal 1 0 1)
    ∷ at 13 0 (row.Round 1 1 11)
    ∷ at 13 0 (row.Stop 1 why.Done 7 None)
    ∷ at 13 0 (row.Run 2)
    ∷ at 18 0 (row.Round 2 1 16)
    ∷ at 18 0 (row.Stop 2 why.Done 5 None)
    ∷ []
a_server_on_its_callers_budget = refl

-- The budget of L ends while it is in the server, and H, which calls it at 5, waits until L has left it at 21.
abbrev a_server_that_is_taken_system : System
a_server_that_is_taken_system =
    record (one_core (context (codes "l") 0 3 10 0 ∷ context (codes "h") 0 20 100 0 ∷ []) (server (codes "v") 0 ∷ [])
    (thread (codes "L") 0 10 0 1 0 (Enter 0 40 ∷ Compute 5 ∷ Leave 0 10 ∷ [])
    ∷ thread (codes "H") 1 30 4 1 0 (Enter 0 40 ∷ Compute 5 ∷ Leave 0 30 ∷ []) ∷ []) []) { servers = 1 }

a_server_that_is_taken : schedule a_server_that_is_taken_system 22 ≡
    at 0 0 (row.Release 0)
    ∷ at 0 0 (row.Run 0)
    ∷ at 1 0 (row.Got 0 0 1)
    ∷ at 3 0 (row.Stop 0 why.Spent 3 (Some 10))
    ∷ at 4 0 (row.Release 1)
    ∷ at 4 0 (row.Run 1)
    ∷ at 5 0 (row.Stop 1 why.Call 1 None)
    ∷ at 10 0 (row.Release 0)
    ∷ at 10 0 (row.Run 0)
    ∷ at 13 0 (row.Stop 0 why.Spent 3 (Some 20))
    ∷ at 20 0 (row.Release 0)
    ∷ at 20 0 (row.Run 0)
    ∷ at 21 0 (row.Signal 0 0 1)
    ∷ at 21 0 (row.Wake 1 0 1 None)
    ∷ at 21 0 (row.Round 0 1 21)
    ∷ at 21 0 (row.Stop 0 why.Done 1 None)
    ∷ at 21 0 (row.Run 1)
    ∷ []
a_server_that_is_taken = refl

-- A guest that computes without end is stopped only by a preemption and by the end of its slice.
abbrev a_guest_that_spins_system : System
a_guest_that_spins_system =
    one_core (context (codes "g") 0 2 2 0 ∷ context (codes "a") 0 1 10 0 ∷ []) []
    (thread (codes "G") 0 1 0 1 0 (Spin ∷ []) ∷ thread (codes "A") 1 5 1 1 0 (Compute 1 ∷ []) ∷ []) []

a_guest_that_spins : schedule a_guest_that_spins_system 3 ≡
    at 0 0 (row.Release 0)
    ∷ at 0 0 (row.Run 0)
    ∷ at 1 0 (row.Release 1)
    ∷ at 1 0 (row.Stop 0 why.Preempt 1 None)
    ∷ at 1 0 (row.Run 1)
    ∷ at 2 0 (row.Round 1 1 1)
    ∷ at 2 0 (row.Stop 1 why.Done 1 None)
    ∷ at 2 0 (row.Run 0)
    ∷ at 3 0 (row.Stop 0 why.Spent 1 None)
    ∷ at 3 0 (row.Run 0)
    ∷ []
a_guest_that_spins = refl

-- A source with the numbers 0 and 3 in a period of 10, and three dates in all: 0, 3 and 10.
abbrev three_dates_system : System
three_dates_system =
    record (one_core [] (note (codes "n") 0 ∷ []) [] []) {
      sources = source (codes "s") 0 1 ∷ [];
      beats = beat 0 0 10 2 ∷ beat 0 3 10 1 ∷ [];
    }

three_dates : schedule three_dates_system 30 ≡
    at 0 0 (row.Interrupt 0 0 1)
    ∷ at 0 0 (row.Hold 0 1)
    ∷ at 3 0 (row.Interrupt 0 0 1)
    ∷ at 3 0 (row.Hold 0 1)
    ∷ at 10 0 (row.Interrupt 0 0 1)
    ∷ at 10 0 (row.Hold 0 1)
    ∷ []
three_dates = refl
