use Rattle.mcs_merge.specs.Merge.{DoNotFall}
use Rattle.mcs_merge.proofs.Pushes.{AreUntil}
use Rattle.mcs_tests_parts.proofs.merge.rows_of.Given as goal

abbrev pub invariant-loop-moment : goal.invariant-loop-moment
invariant-loop-moment l = record { in_order : DoNotFall l.all.items; until : AreUntil l.last l.all.items }
