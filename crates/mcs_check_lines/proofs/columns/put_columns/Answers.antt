use Rattle.std.proofs.Common.{rules, ◌≡◌, ◌++◌, [], OnOk, append-nil, subst, sym}
use Rattle.mcs_fields.specs.Fields.{names_text}
use Rattle.mcs_check_lines.specs.Formats.{column_names, if_chains, more_columns}
use Rattle.mcs_check_lines.proofs.columns.put_columns.Goals as goal

pub returns-then-is_empty-clause-ok : goal.returns-then-is_empty-clause-ok
returns-then-is_empty-clause-ok c =
    let own = column_names c.args.show in
    let none : if_chains c.args.system.now.chains (more_columns c.args.show) ≡ [] = search rules in
    subst (λ more. OnOk c.put_narrow_columns.result (c.put_narrow_columns.new.text.items ≡ c.args.text.now.items ++ names_text (own ++ more))) (sym none)
    (subst (λ names. OnOk c.put_narrow_columns.result (c.put_narrow_columns.new.text.items ≡ c.args.text.now.items ++ names_text names))
    (sym (append-nil own)) c.put_narrow_columns.ensures.ok)

pub returns-else-is_empty-clause-ok : goal.returns-else-is_empty-clause-ok
returns-else-is_empty-clause-ok c =
    let some : if_chains c.args.system.now.chains (more_columns c.args.show) ≡ more_columns c.args.show = search rules in
    subst (λ more. OnOk c.put_wide_columns.result (c.put_wide_columns.new.text.items ≡ c.args.text.now.items ++ names_text (column_names c.args.show ++ more))) (sym some)
    c.put_wide_columns.ensures.ok
