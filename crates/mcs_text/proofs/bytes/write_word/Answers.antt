use Rattle.std.proofs.Common.{arith, rules}
use Rattle.mcs_text.proofs.Behind.{take_word}
use Rattle.mcs_text.proofs.bytes.write_word.Goals as goal

pub returns-clause-written : goal.returns-clause-written
returns-clause-written c =
    take_word c.args.bytes.now c.args.word.now c.copy_from_slice.new.self c.args.at _ (omega arith) (search rules)
