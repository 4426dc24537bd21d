use Rattle.mcs_merge.specs.stored.Parts.{left_of_all, ArePouring}
use Rattle.mcs_merge.proofs.merger.Merger.pour_before.Given as goal

abbrev pub invariant-moments : goal.invariant-moments
invariant-moments g l =
    ArePouring g.P.Out.Sink.takes g.P.Part.holds l.until l.initial.out l.out l.initial.self l.self

abbrev pub decreases-moments : goal.decreases-moments
decreases-moments g l = left_of_all g.P.Part.left l.self
