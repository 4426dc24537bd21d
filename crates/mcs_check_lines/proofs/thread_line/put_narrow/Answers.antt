use Rattle.std.proofs.Common.{rules, ◌≡◌, map}
use Rattle.mcs_fields.specs.Fields.{field_of}
use Rattle.mcs_check_lines.specs.Figures.{thread_fields}
use Rattle.mcs_check_lines.proofs.Values.{values-are}
use Rattle.mcs_check_lines.proofs.thread_line.put_narrow.Goals as goal

pub returns-in-Csv-clause-ok : goal.returns-in-Csv-clause-ok
returns-in-Csv-clause-ok c =
    let fields = thread_fields c.args.system.now c.args.thread c.args.figures.now in
    let are : map field_of c.as_slice.result.now ≡ thread_fields c.args.system.now c.args.thread c.args.figures.now = search rules in
    rw c.in-Csv.is (rw (values-are c.as_slice.result.now fields are) at c.put_row.ensures.ok)

pub returns-in-Json-clause-ok : goal.returns-in-Json-clause-ok
returns-in-Json-clause-ok c =
    let are : map field_of c.as_slice-in-Json.result.now ≡ thread_fields c.args.system.now c.args.thread c.args.figures.now = search rules in
    rw c.in-Json.is (rw are at c.put_object.ensures.ok)
