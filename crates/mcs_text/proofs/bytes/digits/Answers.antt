use Rattle.std.proofs.Common.{arith}
use Rattle.std.proofs.lemmas.Fmt.{length-decimal-le}
use Rattle.mcs_text.proofs.Behind.{length_more}
use Rattle.mcs_text.proofs.bytes.digits.Goals as goal

pub overflow_add-count : goal.overflow_add-count
overflow_add-count c =
    omega (arith, c.eights.invariant, length_more c.eights.left c.eights-test.true c.eights.auto.left-fits.fits, length-decimal-le 20 c.args.number (omega arith) (omega arith) (omega arith))

pub eights-preserved : goal.eights-preserved
eights-preserved c =
    omega (arith, c.eights.invariant, length_more c.eights.left c.eights-test.true c.eights.auto.left-fits.fits)

pub overflow_add-result : goal.overflow_add-result
overflow_add-result c =
    omega (arith, c.eights.invariant, c.few_digits.ensures, length-decimal-le 20 c.args.number (omega arith) (omega arith) (omega arith))

pub overflow_add-result-else-left-lt10000 : goal.overflow_add-result-else-left-lt10000
overflow_add-result-else-left-lt10000 c =
    omega (arith, c.eights.invariant, c.more_digits.ensures, length-decimal-le 20 c.args.number (omega arith) (omega arith) (omega arith))

pub returns-then-left-lt10000-clause-few : goal.returns-then-left-lt10000-clause-few
returns-then-left-lt10000-clause-few c =
    omega (arith, c.eights.invariant, c.few_digits.ensures, length-decimal-le 20 c.args.number (omega arith) (omega arith) (omega arith))

pub returns-else-left-lt10000-clause-few : goal.returns-else-left-lt10000-clause-few
returns-else-left-lt10000-clause-few c =
    omega (arith, c.eights.invariant, c.more_digits.ensures, length-decimal-le 20 c.args.number (omega arith) (omega arith) (omega arith))
