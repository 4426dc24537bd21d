-- Small systems, each for one rule of the turn, with the rows that the rule gives.
use Rattle.std.specs.Prelude.{◌≡◌, ℕ, suc, [], ◌∷◌, Some, None, refl, codes}
use Rattle.std.proofs.Common.{ap, arith}
use Rattle.mcs_ticks.specs.declared.row.What.TheVariants as row
use Rattle.mcs_ticks.specs.declared.row.Why.TheVariants as why
use Rattle.mcs_script.specs.declared.item.Item.TheVariants.{Compute, Signal, Wait}
use Rattle.mcs_script.specs.declared.place.Place.{Place}
use Rattle.mcs_system.specs.System.{System}
use Rattle.mcs_core.specs.Core.{Core, thread_of}
use Rattle.mcs_core.specs.Turn.{Turn}
use Rattle.mcs_core.specs.Clock.{schedule, world, core_at}
use Rattle.mcs_core.specs.Quiet.{IsQuiet}
use Rattle.mcs_worked.specs.Parts.{context, note, thread, at, one_core, two_cores}

-- A signal takes effect before its thread stops. The signaller's slice is exhausted at that very
-- moment, so at equal priority the woken thread is before it in the ready queue and runs next.
abbrev wake_before_stop_system : System
wake_before_stop_system =
    one_core (context (codes "w") 0 5 10 0 ∷ context (codes "s") 0 2 2 0 ∷ []) (note (codes "n") 0 ∷ [])
    (thread (codes "W") 0 5 0 1 0 (Wait 0 ∷ Compute 1 ∷ []) ∷ thread (codes "S") 1 5 0 1 0 (Compute 1 ∷ Signal 0 1 ∷ Compute 1 ∷ []) ∷ []) []

wake_before_stop : schedule wake_before_stop_system 5 ≡
    at 0 0 (row.Release 0)
    ∷ at 0 0 (row.Release 1)
    ∷ at 0 0 (row.Run 0)
    ∷ at 1 0 (row.Stop 0 why.Wait 1 None)
    ∷ at 1 0 (row.Run 1)
    ∷ at 3 0 (row.Signal 1 0 1)
    ∷ at 3 0 (row.Wake 0 0 1 None)
    ∷ at 3 0 (row.Stop 1 why.Spent 2 None)
    ∷ at 3 0 (row.Run 0)
    ∷ at 4 0 (row.Round 0 1 1)
    ∷ at 4 0 (row.Stop 0 why.Done 1 None)
    ∷ at 4 0 (row.Run 1)
    ∷ at 5 0 (row.Round 1 1 5)
    ∷ at 5 0 (row.Stop 1 why.Done 1 None)
    ∷ []
wake_before_stop = refl

-- A thread that blocks is charged and waits before the arrivals of the moment, so a signal that
-- arrives then wakes it at once. Its context is unblocked as the charge left it: one tick may be
-- used from 3 on, the other three from 10 on. A later wait does not restart the round: the response
-- counts from the start.
abbrev blocked_and_woken_at_once_system : System
blocked_and_woken_at_once_system =
    two_cores (context (codes "w") 0 4 10 0 ∷ context (codes "s") 1 5 10 0 ∷ []) (note (codes "n") 0 ∷ [])
    (thread (codes "W") 0 5 0 1 0 (Compute 2 ∷ Wait 0 ∷ Compute 3 ∷ []) ∷ thread (codes "S") 1 5 0 1 0 (Signal 0 5 ∷ []) ∷ []) []

blocked_and_woken_at_once : schedule blocked_and_woken_at_once_system 12 ≡
    at 0 0 (row.Release 0)
    ∷ at 0 0 (row.Run 0)
    ∷ at 0 1 (row.Release 1)
    ∷ at 0 1 (row.Run 1)
    ∷ at 1 1 (row.Signal 1 0 5)
    ∷ at 1 1 (row.Round 1 1 1)
    ∷ at 1 1 (row.Stop 1 why.Done 1 None)
    ∷ at 3 0 (row.Stop 0 why.Wait 3 None)
    ∷ at 3 0 (row.Arrive 0 5 1)
    ∷ at 3 0 (row.Wake 0 0 5 None)
    ∷ at 3 0 (row.Run 0)
    ∷ at 4 0 (row.Stop 0 why.Spent 1 (Some 10))
    ∷ at 10 0 (row.Release 0)
    ∷ at 10 0 (row.Run 0)
    ∷ at 12 0 (row.Round 0 1 12)
    ∷ at 12 0 (row.Stop 0 why.Done 2 None)
    ∷ []
blocked_and_woken_at_once = refl

-- If the first item is a wait, the round begins when that wait gives its word: at 3 and, after the
-- first round's end at 9, at 12. The wait within the round leaves its beginning.
abbrev round_begins_at_the_word_system : System
round_begins_at_the_word_system =
    one_core (context (codes "w") 0 10 100 0 ∷ context (codes "s") 0 20 100 0 ∷ []) (note (codes "n") 0 ∷ [])
    (
    thread (codes "W") 0 9 0 2 0 (Wait 0 ∷ Compute 1 ∷ Wait 0 ∷ Compute 1 ∷ [])
    ∷ thread (codes "S") 1 1 0 1 0 (Compute 1 ∷ Signal 0 1 ∷ Compute 2 ∷ Signal 0 2 ∷ Compute 1 ∷ Signal 0 4 ∷ Compute 1 ∷ Signal 0 8 ∷ Compute 1 ∷ [])
    ∷ []
    ) []

round_begins_at_the_word : schedule round_begins_at_the_word_system 18 ≡
    at 0 0 (row.Release 0)
    ∷ at 0 0 (row.Release 1)
    ∷ at 0 0 (row.Run 0)
    ∷ at 1 0 (row.Stop 0 why.Wait 1 None)
    ∷ at 1 0 (row.Run 1)
    ∷ at 3 0 (row.Signal 1 0 1)
    ∷ at 3 0 (row.Wake 0 0 1 None)
    ∷ at 3 0 (row.Stop 1 why.Preempt 2 None)
    ∷ at 3 0 (row.Run 0)
    ∷ at 5 0 (row.Stop 0 why.Wait 2 None)
    ∷ at 5 0 (row.Run 1)
    ∷ at 8 0 (row.Signal 1 0 2)
    ∷ at 8 0 (row.Wake 0 0 2 None)
    ∷ at 8 0 (row.Stop 1 why.Preempt 3 None)
    ∷ at 8 0 (row.Run 0)
    ∷ at 9 0 (row.Round 0 1 6)
    ∷ at 10 0 (row.Stop 0 why.Wait 2 None)
    ∷ at 10 0 (row.Run 1)
    ∷ at 12 0 (row.Signal 1 0 4)
    ∷ at 12 0 (row.Wake 0 0 4 None)
    ∷ at 12 0 (row.Stop 1 why.Preempt 2 None)
    ∷ at 12 0 (row.Run 0)
    ∷ at 14 0 (row.Stop 0 why.Wait 2 None)
    ∷ at 14 0 (row.Run 1)
    ∷ at 16 0 (row.Signal 1 0 8)
    ∷ at 16 0 (row.Wake 0 0 8 None)
    ∷ at 16 0 (row.Stop 1 why.Preempt 2 None)
    ∷ at 16 0 (row.Run 0)
    ∷ at 17 0 (row.Round 0 2 5)
    ∷ at 17 0 (row.Stop 0 why.Done 1 None)
    ∷ at 17 0 (row.Run 1)
    ∷ at 18 0 (row.Round 1 1 18)
    ∷ at 18 0 (row.Stop 1 why.Done 1 None)
    ∷ []
round_begins_at_the_word = refl

-- An item that ends and is followed by another gives no row at 2, but the thread's place is the next item: the turn is not quiet.
abbrev item_ends_without_a_row_system : System
item_ends_without_a_row_system = one_core (context (codes "a") 0 9 20 0 ∷ []) [] (thread (codes "A") 0 5 0 1 0 (Compute 2 ∷ Compute 3 ∷ []) ∷ []) []

abbrev core_before : ℕ → Core
core_before t = core_at item_ends_without_a_row_system (world item_ends_without_a_row_system t) 0

abbrev place_before : ℕ → Place
place_before t = (thread_of (core_before t) 0).place

item_ends_without_a_row : schedule item_ends_without_a_row_system 5 ≡
    at 0 0 (row.Release 0)
    ∷ at 0 0 (row.Run 0)
    ∷ at 5 0 (row.Round 0 1 5)
    ∷ at 5 0 (row.Stop 0 why.Done 5 None)
    ∷ []
item_ends_without_a_row = refl

place_in_the_item : place_before 2 ≡ record { round = 1; item = 0; left = 1; word = 0; priority = 5 }
place_in_the_item = refl

place_after_the_item : place_before 3 ≡ record { round = 1; item = 1; left = 3; word = 0; priority = 5 }
place_after_the_item = refl

turn_within_the_item : IsQuiet item_ends_without_a_row_system 0 1 [] (core_before 1)
turn_within_the_item = refl

differ : (item : ℕ) → suc item ≡ 0 → ⊥
differ item e = omega arith

turn_at_its_end : IsQuiet item_ends_without_a_row_system 0 2 [] (core_before 2) → ⊥
turn_at_its_end quiet = differ 0 (ap (λ (made : Turn). (thread_of made.core 0).place.item) quiet)
