use Rattle.mcs_ever.specs.Closed.{has}
use Rattle.mcs_ever_found.specs.Tests.{WordsRecur}
use Rattle.mcs_ever_found.proofs.recurs.findings.words_recur.Given as goal

abbrev pub invariant-loop-note : goal.invariant-loop-note
invariant-loop-note l = WordsRecur l.system (has l.group) l.by l.from l.before l.after l.doings l.note
