use Rattle.std.proofs.Common.{rules, ◌≡◌, map}
use Rattle.mcs_fields.specs.Fields.{field_of}
use Rattle.mcs_why_lines.specs.RowFields.{row_fields}
use Rattle.mcs_check_lines.proofs.Values.{values-are}
use Rattle.mcs_why_lines.proofs.row_line.put_row_as.Goals as goal

pub returns-in-Csv-clause-ok : goal.returns-in-Csv-clause-ok
returns-in-Csv-clause-ok c =
    let fields = row_fields c.args.system.now c.args.row.now in
    let are : map field_of c.as_slice.result.now ≡ row_fields c.args.system.now c.args.row.now = search rules in
    rw c.in-Csv.is (rw (values-are c.as_slice.result.now fields are) at c.put_row-in-Csv.ensures.ok)
