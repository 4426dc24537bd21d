use Rattle.std.proofs.Common.{◌≡◌, ◌∙◌, ◌++◌, ◌∷◌, take, ap, arith, rules}
use Rattle.mcs_text.proofs.Behind.{take_block}
use Rattle.mcs_text.proofs.bytes.write_name.Goals as goal

pub returns-clause-written : goal.returns-clause-written
returns-clause-written c =
    let at = c.args.at in
    let copied = c.copy_from_slice-2.new.self in
    let name_is : take c.len.result copied ≡ c.args.name.now = search rules in
    take_block c.args.bytes.now copied at _ c.len.result (omega arith) (search rules) ∙ ap (λ word. take at c.args.bytes.now ++ 32 ∷ word) name_is
