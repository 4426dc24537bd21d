use Rattle.std.proofs.Common.{rules, ◌≡◌, map}
use Rattle.mcs_fields.specs.Fields.{field_of}
use Rattle.mcs_check_lines.specs.Fields.{found_members}
use Rattle.mcs_check_lines.proofs.fields.put_members.Goals as goal

pub returns-clause-ok : goal.returns-clause-ok
returns-clause-ok c =
    let are : map field_of c.as_slice.result.now ≡ found_members c.args.system.now c.args.found.now = search rules in
    rw are at c.put_object.ensures.ok
