-- The state that `Search` keeps between its calls: all cores before one moment and before the kept
-- one.
use Rattle.std.specs.Prelude.{◌≡◌, ℕ, ◌+◌, ◌≤◌, ◌^◌, false}
use Rattle.std.specs.Arc.{arc_value}
use Rattle.mcs_system.specs.System.{System}
use Rattle.mcs_system.specs.WellFormed.{IsWellFormed}
use Rattle.mcs_ever_found.specs.Recurs.{past_before, watch_before}
use Rattle.mcs_ever_found.specs.Course.{course_of}
use Rattle.mcs_ever_again.specs.Snapshot.{IsOfClock}
use Rattle.mcs_ever_search.specs.Compared.{Compared, OrdersComeBefore}
use Rattle.mcs_ever_search.specs.stored.Seen.{HasSeen}
use Rattle.mcs_ever_search.specs.declared.kept.Kept.{Kept}
use Rattle.mcs_ever_search.specs.declared.search.Search.TheInside.{Inside}

abbrev pub compared_of : Inside → Compared
compared_of a =
    record {
      system = arc_value a.system;
      horizon = a.horizon;
      clock = a.clock;
      kept = a.kept.snapshot.moment;
      failed = a.failed;
    }

-- the snapshot, the watch and the counts are those of the clock before the kept moment
pub record IsKeptOf (system : System) (kept : Kept) : Type 0 where
  pub snapshot : IsOfClock system kept.snapshot
  pub watch : kept.watch ≡ watch_before system kept.snapshot.moment
  pub course : kept.course ≡ course_of system (past_before system kept.snapshot.moment)

-- the cores are before this moment, and all rows before it were added
pub record IsGoing (a : Inside) : Type 0 where
  pub lockstep : a.lockstep
      ≡ record {
        system = arc_value a.system;
        horizon = a.horizon;
        clock = a.clock;
        settled = a.lockstep.settled;
        failed = false;
      }
  pub seen : HasSeen (arc_value a.system) a.kept.snapshot.moment a.clock a.seen

pub record IsKept (a : Inside) : Type 0 where
  pub horizon : a.horizon ≤ 2 ^ 40
  pub in_time : a.clock ≤ a.horizon + 1
  pub well_formed : IsWellFormed (arc_value a.system)
  pub orders : OrdersComeBefore (arc_value a.system) a.orders_end
  pub first : (moment : ℕ) → OrdersComeBefore (arc_value a.system) moment → a.orders_end ≤ moment
  pub kept : IsKeptOf (arc_value a.system) a.kept
  pub in_order : a.kept.snapshot.moment ≤ a.clock
  pub going : a.failed ≡ false → IsGoing a
