use Rattle.std.proofs.Common.{refl, ◌∙◌, sym}
use Rattle.std.specs.Prelude.{slice_set}
use Rattle.mcs_window.proofs.Holding.{holds-noted}
use Rattle.mcs_window.proofs.desk.Desk.run_noted.Goals as goal
use Rattle.mcs_window.proofs.desk.Desk.run_noted.Goals.{then-calendar, else-calendar}

pub returns-clause-holds : goal.returns-clause-holds
returns-clause-holds g c =
    holds-noted c.self.inside c.self.invariant c.args.self.now c.self.view_is c.requires.here c.core.inside.0 c.args.core c.core.view_is c.run_here.new.self c.args.calendar.now
    (record { until = slice_set c.args.calendar.now.until c.core.inside.0 0; stale = c.if-calendar.calendar })
    c.requires.may.known c.requires.holds c.in_ok-signals.ensures.moved.0 c.in_ok-signals.ensures.ok refl
    (λ e. elim c.if-calendar.branch [
      | then-calendar w ↦ cc
      | else-calendar w ↦ (w.if-calendar.false, c.in_ok-signals.ensures.silent (sym w.calendar-is ∙ e))
    ])
