use Rattle.mcs_hints.proofs.Digits.{Digits}
use Rattle.mcs_hints.proofs.exact.is_above_one.Given as goal

abbrev pub invariant-loop-digit : goal.invariant-loop-digit
invariant-loop-digit l = Digits l.initial.fractions l.fractions l._digit l.bar
