use Rattle.std.proofs.Common.{rules, ◌≡◌, ◌∙◌, ap, drop, map}
use Rattle.mcs_fields.specs.Fields.{field_of}
use Rattle.mcs_check_lines.specs.Figures.{figure_fields, thread_fields}
use Rattle.mcs_check_lines.proofs.thread_line.put_thread.Goals as goal

pub returns-clause-ok : goal.returns-clause-ok
returns-clause-ok c =
    let all : map field_of c.as_slice.result.now ≡ thread_fields c.args.system.now c.args.thread c.args.figures.now = search rules in
    let are : map field_of c.behind_two.result.now ≡ figure_fields c.args.figures.now = c.behind_two.ensures ∙ ap (drop 2) all in
    rw (c.thread_name.ensures.name, are) at c.put_line.ensures.ok
