use Rattle.std.proofs.Common.{rules, ◌≡◌, map}
use Rattle.mcs_fields.specs.Fields.{field_of}
use Rattle.mcs_check_lines.specs.Fields.{job_fields}
use Rattle.mcs_check_lines.proofs.Values.{values-are}
use Rattle.mcs_check_lines.proofs.job_line.put_narrow.Goals as goal

pub returns-in-Csv-clause-ok : goal.returns-in-Csv-clause-ok
returns-in-Csv-clause-ok c =
    let fields = job_fields c.args.system.now c.args.job.now in
    let are : map field_of c.as_slice.result.now ≡ job_fields c.args.system.now c.args.job.now = search rules in
    rw c.in-Csv.is (rw (values-are c.as_slice.result.now fields are) at c.put_row.ensures.ok)
