use Rattle.std.proofs.Common.{get_or, set, ap, ◌∙◌, arith}
use Rattle.std.proofs.lemmas.List.{get_or_default}
use Rattle.std.proofs.lemmas.List.Edits.{map_over_more}
use Rattle.mcs_hints.specs.Exact.{rest_of}
use Rattle.mcs_hints.specs.declared.exact.Fraction.{Fraction}
use Rattle.mcs_hints.proofs.exact.keep_rests.Goals as goal

abbrev no_fraction : Fraction
no_fraction = record { numerator = 0; denominator = 0 }

pub loop-fraction-preserved : goal.loop-fraction-preserved
loop-fraction-preserved c =
    let i = c.loop-fraction.fraction-index in
    let f = get_or c.loop-fraction.fractions i no_fraction in
    ap (set c.loop-fraction.fractions i) c.keep_rest.ensures
    ∙ map_over_more rest_of c.args.fractions.now c.loop-fraction.fractions i f c.loop-fraction-test.true c.loop-fraction.invariant
    (get_or_default c.loop-fraction.fractions i no_fraction f (omega (arith, c.loop-fraction-test.true, c.loop-fraction.auto.fractions)))
