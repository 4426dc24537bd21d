use Rattle.std.proofs.Common.{◌≡◌, ◌∙◌, ◌+◌, ◌-◌, ◌*◌, ◌/◌, ◌%◌, ◌≤◌, ◌<◌, ◌^◌, ◌++◌, ap, sym, arith}
use Rattle.std.specs.Fmt.{decimal}
use Rattle.itoa.proofs.Decimal.{decimal_pair, pair}
use Rattle.mcs_text.proofs.Behind.{last_two}
use Rattle.mcs_text.proofs.moment.MomentDigits.make_last_two.Goals as goal

pub invariant_of-self : goal.invariant_of-self
invariant_of-self c =
    let digits = c.self.inside in
    let moment = c.args.moment in
    let old = digits.moment in
    let near : moment / 100 ≡ old / 100 = c.requires.near ∙ ap (λ n. n / 100) (sym c.self.view_is) in
    let long : 100 ≤ old = omega arith in
    let hundred : digits.hundred ≡ old / 100 * 100 = c.self.invariant.hundred_is long in
    let late : moment < 2 ^ 64 = omega arith in
    let before : old < 2 ^ 64 = omega arith in
    let rest : c.get.result - digits.hundred ≡ moment % 100 = omega arith in
    let were = c.self.invariant.digits_are ∙ decimal_pair old long before in
    let are = last_two digits.block (decimal (old / 100)) digits.start _ _ (48 + (c.get.result - digits.hundred) / 10)
    (48 + (c.get.result - digits.hundred) % 10) c.self.invariant.within (omega arith) were
    in
    record {
      within = c.self.invariant.within;
      digits_are = are ∙ ap (λ r. decimal (old / 100) ++ pair r) rest ∙ ap (λ n. decimal n ++ pair (moment % 100)) (sym near)
          ∙ sym (decimal_pair moment c.requires.long late);
      hundred_is = λ m. omega arith;
      none_is = λ m. absurd (omega arith);
    }
