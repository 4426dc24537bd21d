use Rattle.std.proofs.Common.{◌≡◌, ◌*◌, ◌+◌, ◌-◌, ◌<◌, length, List, refl, subst, sym, ap, ◌∙◌, arith}
use Rattle.std.proofs.lemmas.List.{length-map}
use Rattle.mcs_hints.specs.Exact.{rest_of}
use Rattle.mcs_hints.specs.declared.exact.Fraction.{Fraction}
use Rattle.mcs_hints.proofs.Digits.{Digits, no_digit, told_above, told_not, next_digit, all_digits}
use Rattle.mcs_hints.proofs.exact.is_above_one.Goals as goal

pub loop-digit-init : goal.loop-digit-init
loop-digit-init c = no_digit c.args.fractions.now c.requires.all

pub wholes-wholes-requires : goal.wholes-wholes-requires
wholes-wholes-requires c = record { all = c.loop-digit.invariant.all; few = omega (arith, c.loop-digit.invariant.as_many, c.requires.few) }

pub keep_rests-requires : goal.keep_rests-requires
keep_rests-requires c = c.loop-digit.invariant.all

pub overflow_mul-bar : goal.overflow_mul-bar
overflow_mul-bar c = omega (arith, c.loop-digit.invariant.low)

pub loop-digit-preserved : goal.loop-digit-preserved
loop-digit-preserved c =
    let first = c.args.fractions.now in
    let now = c.loop-digit.fractions in
    let many : length c.keep_rests.new.fractions ≡ length now = ap length c.keep_rests.ensures ∙ length-map now rest_of in
    let few : c.loop-digit.bar * 1048576 - c.wholes-wholes.result < 4096 =
    omega (arith, c.if-fractions-bar.false, many, c.loop-digit.invariant.as_many, c.requires.few)
    in
    subst (λ (rests : List Fraction). Digits first rests (c.loop-digit._digit + 1) (c.loop-digit.bar * 1048576 - c.wholes-wholes.result)) (sym c.keep_rests.ensures)
    (next_digit first now c.loop-digit._digit c.loop-digit.bar (c.loop-digit.bar * 1048576) c.wholes-wholes.result c.loop-digit.invariant refl
    c.wholes-wholes.ensures c.if-bar-wholes.false few)

pub returns-then-bar-wholes : goal.returns-then-bar-wholes
returns-then-bar-wholes c =
    told_above c.args.fractions.now c.loop-digit.fractions c.loop-digit._digit c.loop-digit.bar (c.loop-digit.bar * 1048576) c.wholes-wholes.result
    c.loop-digit.invariant refl c.wholes-wholes.ensures c.if-bar-wholes.true

pub returns-then-fractions-bar : goal.returns-then-fractions-bar
returns-then-fractions-bar c =
    let now = c.loop-digit.fractions in
    let many : length c.keep_rests.new.fractions ≡ length now = ap length c.keep_rests.ensures ∙ length-map now rest_of in
    told_not c.args.fractions.now now c.loop-digit._digit c.loop-digit.bar (c.loop-digit.bar * 1048576) c.wholes-wholes.result
    c.loop-digit.invariant refl c.wholes-wholes.ensures c.if-bar-wholes.false (omega (arith, many, c.if-fractions-bar.true))

pub returns : goal.returns
returns c =
    all_digits c.args.fractions.now c.loop-digit.fractions c.loop-digit._digit c.loop-digit.bar c.loop-digit.invariant c.requires.few
    (omega (arith, c.loop-digit-test.false, c.loop-digit.auto._digit-end))
