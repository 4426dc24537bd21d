-- Two ready threads whose order in the one list is not that by priority.
use Rattle.std.specs.Prelude.{◌≡◌, ◌+◌, ℕ, zero, suc, List, [], ◌∷◌, Some, None, refl, codes}
use Rattle.std.proofs.Common.{arith}
use Rattle.mcs_ticks.specs.Queue.{by_priority, in_one_list}
use Rattle.mcs_ticks.specs.declared.queue.Queued.{Queued}
use Rattle.mcs_ticks.specs.declared.row.What.TheVariants as row
use Rattle.mcs_ticks.specs.declared.row.Why.TheVariants as why
use Rattle.mcs_script.specs.declared.item.Item.TheVariants.{Compute}
use Rattle.mcs_system.specs.System.{System}
use Rattle.mcs_core.specs.declared.standing.Standing.{Standing}
use Rattle.mcs_core.specs.declared.standing.Standing.TheVariants.{Ready, Running}
use Rattle.mcs_core.specs.declared.standing.Thread.{Thread}
use Rattle.mcs_core.specs.Core.{Core, opening_core}
use Rattle.mcs_core.specs.Clock.{clock_with, world, core_at, core_shown, schedule, schedule_with}
use Rattle.mcs_core.specs.Quiet.{AreQuiet, IsNextBusy}
use Rattle.mcs_worked.specs.Parts.{context, thread, one_core}
use Rattle.mcs_worked.proofs.Busy.{tells}

-- High, of priority 9, runs from 0 to 4. Low, of priority 1, is released at 1, and Middle, of priority 5, at 2.
abbrev system : System
system =
    one_core (context (codes "h") 0 5 10 0 ∷ context (codes "l") 0 5 10 0 ∷ context (codes "m") 0 5 10 0 ∷ []) []
    (thread (codes "High") 0 9 0 1 0 (Compute 4 ∷ []) ∷ thread (codes "Low") 1 1 1 1 0 (Compute 1 ∷ [])
    ∷ thread (codes "Middle") 2 5 2 1 0 (Compute 1 ∷ []) ∷ []) []

abbrev low : Queued
low = record { thread = 1; priority = 1 }

abbrev middle : Queued
middle = record { thread = 2; priority = 5 }

-- a thread of this priority in its first round, which began then
abbrev stands_so : Standing → ℕ → ℕ → ℕ → Thread
stands_so standing priority left since =
    record { standing = standing; place = record { round = 1; item = 0; left = left; word = 0; priority = priority }; since = since }

-- Before moment 3 High has run for 2 ticks, and in the clock's list the others stand as they entered ..
abbrev before_3 : Core
before_3 =
    record (opening_core system 0) {
      running = Some (record { thread = 0; using = 2 });
      threads = stands_so Running 9 2 0 ∷ stands_so Ready 1 1 1 ∷ stands_so Ready 5 1 2 ∷ [];
      ready = low ∷ middle ∷ [];
      releases = [];
    }

pub in_order_of_entering : core_at system (world system 3) 0 ≡ before_3
in_order_of_entering = refl

-- .. and by priority, as the state of the core shows them, and as a clock that kept them so would have them, the other way round.
pub by_priority_as_shown : (core_shown system (world system 3) 0).ready ≡ middle ∷ low ∷ []
by_priority_as_shown = refl

pub by_priority_as_kept : (core_at system (clock_with by_priority system 3).world 0).ready ≡ middle ∷ low ∷ []
by_priority_as_kept = refl

-- The best is Middle both times, and the rows are the same.
pub the_best_of_both : in_one_list.best (low ∷ middle ∷ []) ≡ Some middle × by_priority.best (middle ∷ low ∷ []) ≡ Some middle
the_best_of_both = (refl, refl)

pub the_same_rows : schedule system 8 ≡ schedule_with by_priority system 8
the_same_rows = refl

-- The turn of moment 3 is quiet, and High's end at 4 is the next busy one.
pub the_next_busy : IsNextBusy system 0 3 [] before_3 (Some 4)
the_next_busy = (1, refl, omega arith, quiet, tells _ _ (row.Round 0 1 4) (row.Stop 0 why.Done 4 None ∷ row.Run 2 ∷ []) refl)
  where
    quiet : AreQuiet system 0 3 [] before_3 1
    quiet zero l = refl
    quiet (suc m) l = absurd (omega arith)
