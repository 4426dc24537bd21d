use Rattle.std.proofs.Common.{arith, decimal, ◌∷◌}
use Rattle.mcs_text.specs.Text.{after, words_of}
use Rattle.mcs_text.proofs.Places.{grows_by_line}
use Rattle.mcs_text.proofs.lines.write_line.Goals as goal

pub returns-clause-longer : goal.returns-clause-longer
returns-clause-longer g c =
    let row = c.args.row.now in
    grows_by_line c.write_rest.new.bytes c.write-core.new.bytes c.args.bytes.now (decimal c.args.digits.now)
    (after (decimal row.core ∷ words_of (g.N.Naming.system c.args.names.now) row.what)) c.write_rest.result c.write-core.result c.args.at
    (omega arith) (omega arith) c.write-core.ensures.written c.write_rest.ensures.written
