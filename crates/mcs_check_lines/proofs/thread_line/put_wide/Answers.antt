use Rattle.std.proofs.Common.{rules, ◌≡◌, map}
use Rattle.mcs_fields.specs.Fields.{field_of}
use Rattle.mcs_check_lines.specs.Figures.{thread_fields}
use Rattle.mcs_check_lines.specs.Formats.{no_figures}
use Rattle.mcs_check_lines.proofs.thread_line.put_wide.Goals as goal

pub returns-in-Csv-clause-ok : goal.returns-in-Csv-clause-ok
returns-in-Csv-clause-ok c =
    let own : map field_of c.as_slice.result.now ≡ thread_fields c.args.system.now c.args.thread c.args.figures.now = search rules in
    let none : map field_of c.as_slice-in-Csv.result.now ≡ no_figures = search rules in
    rw c.in-Csv.is (rw (own, none) at c.put_row_with.ensures.ok)

pub returns-in-Json-clause-ok : goal.returns-in-Json-clause-ok
returns-in-Json-clause-ok c =
    let own : map field_of c.as_slice-in-Json.result.now ≡ thread_fields c.args.system.now c.args.thread c.args.figures.now = search rules in
    let none : map field_of c.as_slice-in-Json-2.result.now ≡ no_figures = search rules in
    rw c.in-Json.is (rw (own, none) at c.put_object_with.ensures.ok)
