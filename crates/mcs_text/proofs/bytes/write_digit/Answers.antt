use Rattle.std.proofs.Common.{◌≡◌, ◌∙◌, ◌+◌, ◌-◌, ◌++◌, ◌∷◌, [], take, ap, arith, rules, sym}
use Rattle.std.proofs.lemmas.Fmt.{decimal_digit}
use Rattle.std.proofs.lemmas.Slice.{take-put_mid}
use Rattle.mcs_text.proofs.bytes.write_digit.Goals as goal

pub returns-clause-written : goal.returns-clause-written
returns-clause-written c =
    let at = c.args.at in
    let copied : c.copy_from_slice.new.self ≡ 32 ∷ (48 + c.args.digit) ∷ [] = search rules in
    take-put_mid at (at + 2 - at) c.args.bytes.now c.copy_from_slice.new.self (at + 2) (search rules) (omega arith)
    ∙ ap (λ word. take at c.args.bytes.now ++ word) (copied ∙ ap (λ digits. 32 ∷ digits) (sym (decimal_digit c.args.digit c.requires.digit)))
