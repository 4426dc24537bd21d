-- The invariant of a stretch that was run: the outcome of its turns, and a collector that holds
-- their rows.
use Rattle.std.specs.Prelude.{List}
use Rattle.std.specs.Arc.{arc_value}
use Rattle.mcs_ticks.specs.declared.row.Row.{Row}
use Rattle.mcs_stretch.specs.Stretch.{rows_between}
use Rattle.mcs_window.specs.Pieces.{Outcome, IsOutcome}
use Rattle.mcs_window.specs.declared.piece.Done.TheInside.{Inside}

abbrev pub outcome_of : {S : Type 0} → Inside S → Outcome
outcome_of a =
    record {
      system = arc_value a.system;
      core = a.core;
      first = a.first;
      past = a.past;
      front = a.front;
      state = a.state.value;
      rows = rows_between (arc_value a.system) a.core a.first a.past;
      out = a.out.items;
      mail = a.mail.mails;
    }

pub record IsKept {S : Type 0} (holds : S → List Row → Type 0) (a : Inside S) : Type 0 where
  pub is : IsOutcome (outcome_of a)
  pub told : holds a.rows (rows_between (arc_value a.system) a.core a.first a.past)
