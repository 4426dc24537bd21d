use Rattle.std.proofs.Common.{arith, refl, sym}
use Rattle.std.proofs.lemmas.Fmt.{decimal_digit}
use Rattle.mcs_text.proofs.moment.MomentDigits.new.Goals as goal

pub invariant_of-result-2 : goal.invariant_of-result-2
invariant_of-result-2 c = record {
  within = omega arith;
  digits_are = sym (decimal_digit 0 (omega arith));
  hundred_is = λ long. absurd (omega arith);
  none_is = λ short. refl;
}
