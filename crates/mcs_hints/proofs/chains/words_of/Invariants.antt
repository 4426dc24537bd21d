use Rattle.std.proofs.Common.{◌≡◌}
use Rattle.mcs_hints.specs.Chains.{words_after}
use Rattle.mcs_hints.proofs.chains.words_of.Given as goal

abbrev pub invariant-loop-pass : goal.invariant-loop-pass
invariant-loop-pass l = l.words.items ≡ words_after l.parts l.source l._pass
