use Rattle.std.proofs.Common.{rules, ◌≡◌, ◌++◌, map}
use Rattle.mcs_fields.specs.Fields.{field_of}
use Rattle.mcs_check_lines.proofs.pairs.put_object_with.Goals as goal

pub returns-clause-ok : goal.returns-clause-ok
returns-clause-ok c =
    let are : map field_of c.as_slice.result.now ≡ map field_of c.args.fields.now ++ map field_of c.args.more.now = search rules in
    rw are at c.put_object.ensures.ok
