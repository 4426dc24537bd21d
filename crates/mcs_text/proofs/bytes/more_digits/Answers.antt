use Rattle.std.proofs.Common.{sym}
use Rattle.mcs_text.proofs.Behind.{length_five, length_six, length_seven, length_eight}
use Rattle.mcs_text.proofs.bytes.more_digits.Goals as goal

pub returns-then-number-lt100000 : goal.returns-then-number-lt100000
returns-then-number-lt100000 c = sym (length_five c.args.number c.requires.0 c.if-number-lt100000.true)

pub returns-then-number-lt1000000 : goal.returns-then-number-lt1000000
returns-then-number-lt1000000 c = sym (length_six c.args.number c.if-number-lt100000.false c.if-number-lt1000000.true)

pub returns-then-number-lt10000000 : goal.returns-then-number-lt10000000
returns-then-number-lt10000000 c = sym (length_seven c.args.number c.if-number-lt1000000.false c.if-number-lt10000000.true)

pub returns-else-number-lt10000000 : goal.returns-else-number-lt10000000
returns-else-number-lt10000000 c = sym (length_eight c.args.number c.if-number-lt10000000.false c.requires.1)
