use Rattle.std.proofs.Common.{◌≡◌, ◌∙◌, ◌+◌, ◌-◌, ◌++◌, take, drop, ap, arith, rules, take-take}
use Rattle.std.specs.Fmt.{decimal}
use Rattle.mcs_text.proofs.Behind.{take_part}
use Rattle.mcs_text.proofs.moment.MomentDigits.write.Goals as goal

pub returns-clause-written : goal.returns-clause-written
returns-clause-written c =
    let at = c.args.at in
    let digits = c.self.inside in
    let copied : c.copy_from_slice-2.new.self ≡ take (digits.start + 16 - digits.start) (drop digits.start digits.block) = search rules in
    let first : take (16 - digits.start) c.copy_from_slice-2.new.self ≡ take (16 - digits.start) (drop digits.start digits.block) =
    ap (take (16 - digits.start)) copied ∙ take-take _ _ (drop digits.start digits.block) (omega arith)
    in
    take_part c.args.bytes.now c.copy_from_slice-2.new.self at _ (16 - digits.start) (omega arith) (search rules)
    ∙ ap (λ word. take at c.args.bytes.now ++ word) (first ∙ c.self.invariant.digits_are ∙ ap decimal c.self.view_is)
