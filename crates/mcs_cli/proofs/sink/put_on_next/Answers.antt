use Rattle.mcs_merge.proofs.Helds.{err_same}
use Rattle.mcs_cli.proofs.Flow.{prefix-longer, refused-through, written-through}
use Rattle.mcs_cli.proofs.sink.put_on_next.Goals as goal

pub returns-in_err-write_lines-clause-prefix : goal.returns-in_err-write_lines-clause-prefix
returns-in_err-write_lines-clause-prefix g c =
    err_same c.from_residual.result (prefix-longer _ _ c.args.page.now c.args.lines.now c.in_err-write_lines.ensures.prefix)

pub returns-clause-written : goal.returns-clause-written
returns-clause-written g c =
    written-through _ _ _ c.args.page.now c.write_lines.new.page c.args.lines.now c.write.result
    c.in_ok-write_lines.ensures.written c.in_ok-write_lines.ensures.empty c.write.ensures.written

pub returns-clause-prefix : goal.returns-clause-prefix
returns-clause-prefix g c =
    refused-through _ _ _ c.args.page.now c.write_lines.new.page c.args.lines.now c.write.result
    c.in_ok-write_lines.ensures.written c.in_ok-write_lines.ensures.empty c.write.ensures.prefix
