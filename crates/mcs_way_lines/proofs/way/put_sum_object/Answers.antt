use Rattle.std.proofs.Common.{rules, ◌≡◌, map}
use Rattle.mcs_fields.specs.Fields.{field_of}
use Rattle.mcs_way_lines.specs.Lines.{sum_fields}
use Rattle.mcs_way_lines.proofs.way.put_sum_object.Goals as goal

pub returns : goal.returns
returns c =
    let are : map field_of c.as_slice.result.now ≡ sum_fields c.args.sums.now = search rules in
    rw are at c.put_object.ensures.ok
