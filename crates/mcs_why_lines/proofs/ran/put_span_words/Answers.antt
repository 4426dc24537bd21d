use Rattle.std.proofs.Common.{rules, ◌≡◌, ◌∙◌, ap, codes, drop, map}
use Rattle.mcs_fields.specs.Fields.{field_of}
use Rattle.mcs_why_lines.specs.Account.{span_fields, told_fields}
use Rattle.mcs_why_lines.proofs.ran.put_span_words.Goals as goal

pub returns : goal.returns
returns c =
    let all : map field_of c.as_slice.result.now ≡ span_fields c.args.system.now (codes "round") c.args.span.now = search rules in
    let are : map field_of c.behind_two.result.now ≡ told_fields (codes "round") c.args.span.now = c.behind_two.ensures ∙ ap (drop 2) all in
    rw (c.thread_name.ensures.name, are) at c.put_line.ensures.ok
