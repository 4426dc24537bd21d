use Rattle.std.proofs.Common.{rules, ◌≡◌, ◌∙◌, ◌++◌, [], OnOk, append-nil, ap, map, subst, sym}
use Rattle.mcs_fields.specs.Fields.{field_of, row_text}
use Rattle.mcs_check_lines.specs.Fields.{Fields, found_fields}
use Rattle.mcs_check_lines.specs.Formats.{if_chains, no_columns}
use Rattle.mcs_check_lines.proofs.Values.{values-are}
use Rattle.mcs_check_lines.proofs.format.put_found_row.Goals as goal

pub returns-then-is_empty-clause-ok : goal.returns-then-is_empty-clause-ok
returns-then-is_empty-clause-ok c =
    let own = found_fields c.args.system.now c.args.found.now in
    let none : if_chains c.args.system.now.chains no_columns ≡ [] = search rules in
    let are : map field_of c.as_slice.result.now ≡ own = search rules in
    let all = values-are c.as_slice.result.now (own ++ if_chains c.args.system.now.chains no_columns)
    (are ∙ sym (append-nil own) ∙ ap (λ more. own ++ more) (sym none)) in
    rw all at c.put_row.ensures.ok

pub returns-else-is_empty-clause-ok : goal.returns-else-is_empty-clause-ok
returns-else-is_empty-clause-ok c =
    let own = found_fields c.args.system.now c.args.found.now in
    let some : if_chains c.args.system.now.chains no_columns ≡ no_columns = search rules in
    let are : map field_of c.as_slice-else-is_empty.result.now ≡ own ++ no_columns = search rules in
    let all = values-are c.as_slice-else-is_empty.result.now (own ++ if_chains c.args.system.now.chains no_columns)
    (are ∙ ap (λ more. own ++ more) (sym some)) in
    rw all at c.put_row-else-is_empty.ensures.ok
