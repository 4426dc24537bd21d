use Rattle.std.proofs.Common.{ℕ, arith, lit<, Ok, Err}
use Rattle.std.proofs.lemmas.Bool.Decides.{not_from_Decides}
use Rattle.std.proofs.lemmas.Str.Parse.{parse_plain}
use Rattle.std.proofs.lemmas.Str.Pattern.{starts_char}
use Rattle.mcs_script.proofs.Numbers.{own, number-in_range, number-out_of_range, number-refused}
use Rattle.mcs_script.proofs.raw.number_up_to.Goals as goal
use Rattle.mcs_script.proofs.raw.number_up_to.Goals.{else-number-ge1-via-then-number-ge1+else-number-most, else-number-ge1-via-else-number-ge1}

pub returns-in_default : goal.returns-in_default
returns-in_default c =
    let plus = starts_char 43 c.args.digits.now c.starts_with-else-starts_with.result c.starts_with-else-starts_with.ensures.cases (lit< tt) (lit< tt) in
    let read = parse_plain own 64 c.args.digits.now (Err c.in_default.field-0) c.in_default.ensures.value.0 (not_from_Decides _ plus c.if-starts_with-2.false) in
    number-refused c.args.most c.args.digits.now c.ranges.most.fits read

pub returns-then-number-most : goal.returns-then-number-most
returns-then-number-most c =
    let zero = starts_char 48 c.args.digits.now c.starts_with.result c.starts_with.ensures.cases (lit< tt) (lit< tt) in
    let plus = starts_char 43 c.args.digits.now c.starts_with-else-starts_with.result c.starts_with-else-starts_with.ensures.cases (lit< tt) (lit< tt) in
    let read = parse_plain own {E = ℕ} 64 c.args.digits.now (Ok c.in-Ok.number) c.in-Ok.ensures.value.0 (not_from_Decides _ plus c.if-starts_with-2.false) in
    number-in_range c.args.most c.in-Ok.number c.args.digits.now (not_from_Decides _ zero c.if-starts_with.false) read.0.0 read.0.1 read.1 c.if-number-ge1.true c.if-number-most.true

pub returns-else-number-ge1 : goal.returns-else-number-ge1
returns-else-number-ge1 c =
    let plus = starts_char 43 c.args.digits.now c.starts_with-else-starts_with.result c.starts_with-else-starts_with.ensures.cases (lit< tt) (lit< tt) in
    let read = parse_plain own {E = ℕ} 64 c.args.digits.now (Ok c.in-Ok.number) c.in-Ok.ensures.value.0 (not_from_Decides _ plus c.if-starts_with-2.false) in
    number-out_of_range c.args.most c.in-Ok.number c.args.digits.now read.1
    (λ p.
    elim c.else-number-ge1.branch [
      | else-number-ge1-via-then-number-ge1+else-number-most w ↦ w.if-number-most.false
      | else-number-ge1-via-else-number-ge1 w ↦ absurd (omega (arith, w.if-number-ge1.false))
    ])
