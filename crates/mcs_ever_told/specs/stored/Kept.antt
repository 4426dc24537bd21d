-- The state that `Outlook` keeps between its calls.
use Rattle.std.specs.Prelude.{◌≡◌, false, length}
use Rattle.std.specs.Arc.{arc_value}
use Rattle.mcs_ever.specs.Closed.{AreLeastClosed}
use Rattle.mcs_ever_told.specs.Progress.{Progress}
use Rattle.mcs_ever_told.specs.stored.Groups.{groups_of}
use Rattle.mcs_ever_told.specs.stored.Left.{is_any_left}
use Rattle.mcs_ever_told.specs.stored.Looks.{IsLook, AreToldSoFar}
use Rattle.mcs_ever_told.specs.declared.outlook.Outlook.TheInside.{Inside}

abbrev pub progress_of : Inside → Progress
progress_of a =
    record {
      system = arc_value a.system;
      allowed = a.allowed.items;
      horizon = a.horizon;
      clock = a.search.clock;
      left = is_any_left a.told.items;
    }

-- the search is one of this system, up to this horizon
pub record IsGoing (a : Inside) : Type 0 where
  pub look : IsLook (arc_value a.system) a.search
  pub horizon : a.search.horizon ≡ a.horizon

pub record IsKept (a : Inside) : Type 0 where
  pub sets : AreLeastClosed (arc_value a.system) a.sets.items
  pub groups : a.groups.items ≡ groups_of a.sets.items
  pub many : length a.told.items ≡ length a.groups.items
  pub told : AreToldSoFar (arc_value a.system) a.allowed.items a.horizon a.groups.items a.told.items
  pub going : a.failed ≡ false → IsGoing a
