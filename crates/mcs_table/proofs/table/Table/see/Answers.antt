use Rattle.std.proofs.Common.{◌∙◌}
use Rattle.mcs_table.proofs.Quiet.{quiet_row}
use Rattle.mcs_table.proofs.table.Table.see.Goals as goal

pub returns-in_default : goal.returns-in_default
returns-in_default c system horizon past e job found merged =
    e ∙ quiet_row system horizon c.args.row.now past c.in_default.not-Hold c.in_default.not-Round
