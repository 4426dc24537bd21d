use Rattle.std.proofs.Common.{rules, ◌≡◌, map}
use Rattle.mcs_fields.specs.Fields.{field_of}
use Rattle.mcs_check_lines.specs.Fields.{counts_fields}
use Rattle.mcs_check_lines.proofs.format.put_narrow_counts.Goals as goal

pub returns-clause-ok : goal.returns-clause-ok
returns-clause-ok c =
    let are : map field_of c.as_slice.result.now ≡ counts_fields c.args.counts.now c.args.scope.now = search rules in
    rw are at c.put_object.ensures.ok
