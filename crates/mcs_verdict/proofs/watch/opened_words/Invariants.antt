use Rattle.std.proofs.Common.{◌≡◌, ◌++◌, drop}
use Rattle.mcs_verdict.specs.Words.{firsts_from}
use Rattle.mcs_verdict.proofs.watch.opened_words.Given as goal

abbrev pub invariant-loop-number : goal.invariant-loop-number
invariant-loop-number l =
    l.words.items ++ firsts_from l.number l.parts.threads (drop l.number l.parts.notes) ≡ firsts_from 0 l.parts.threads l.parts.notes
