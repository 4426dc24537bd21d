use Rattle.std.proofs.Common.{◌≡◌}
use Rattle.mcs_team.proofs.Stopping.{IsGiving}
use Rattle.mcs_team.proofs.stream.give_out.Given as goal

abbrev pub invariant-loop : goal.invariant-loop
invariant-loop g l =
    (goal.iterator-loop g).can_next l.iterator' × (goal.iterator-loop g).is_finite l.iterator'
    × (l.flow.end ≡ l.initial.flow.end)
    × IsGiving g.W.Part.Out.Sink.takes g.W.Part.Part.holds g.B.Run.system g.B.Run.horizon l.initial.flow.reached l.initial.out
    l.flow.reached l.flow.pasts.items l.flow.merger l.out
