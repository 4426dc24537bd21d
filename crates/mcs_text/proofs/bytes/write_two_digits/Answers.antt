use Rattle.std.proofs.Common.{◌≡◌, ◌∙◌, ◌+◌, ◌-◌, ◌/◌, ◌%◌, ◌++◌, ◌∷◌, [], take, ap, arith, rules, sym}
use Rattle.std.proofs.lemmas.Slice.{take-put_mid}
use Rattle.itoa.proofs.Decimal.{decimal_two}
use Rattle.mcs_text.proofs.bytes.write_two_digits.Goals as goal

pub returns-clause-written : goal.returns-clause-written
returns-clause-written c =
    let at = c.args.at in
    let number = c.args.number in
    let copied : c.copy_from_slice.new.self ≡ 32 ∷ (48 + number / 10) ∷ (48 + number % 10) ∷ [] = search rules in
    take-put_mid at (at + 3 - at) c.args.bytes.now c.copy_from_slice.new.self (at + 3) (search rules) (omega arith)
    ∙ ap (λ word. take at c.args.bytes.now ++ word)
    (copied ∙ ap (λ digits. 32 ∷ digits) (sym (decimal_two number c.requires.digits.0 c.requires.digits.1)))
