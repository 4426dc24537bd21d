use Rattle.std.proofs.Common.{arith, rules}
use Rattle.std.proofs.lemmas.Fmt.{length-decimal-le}
use Rattle.mcs_text.proofs.moment.MomentDigits.make_all.Goals as goal

pub write_digits-self-inside-requires : goal.write_digits-self-inside-requires
write_digits-self-inside-requires c =
    (length-decimal-le 16 c.get-ticks.result (omega arith) (omega (arith, c.get-ticks.ensures.in_range)) (omega (arith, c.get-ticks.ensures.in_range)), search rules)
