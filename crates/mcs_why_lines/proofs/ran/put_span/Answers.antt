use Rattle.std.proofs.Common.{rules, ◌≡◌, codes, map}
use Rattle.mcs_fields.specs.Fields.{field_of}
use Rattle.mcs_why_lines.specs.Account.{span_fields}
use Rattle.mcs_check_lines.proofs.Values.{values-are}
use Rattle.mcs_why_lines.proofs.ran.put_span.Goals as goal

pub returns-in-Csv : goal.returns-in-Csv
returns-in-Csv c =
    let fields = span_fields c.args.system.now (codes "number") c.args.span.now in
    let are : map field_of c.as_slice.result.now ≡ span_fields c.args.system.now (codes "number") c.args.span.now = search rules in
    rw c.in-Csv.is (rw (values-are c.as_slice.result.now fields are) at c.put_row.ensures.ok)
