use Rattle.std.proofs.Common.{rules, ◌≡◌, ◌++◌, map}
use Rattle.mcs_check_words.specs.declared.asked.Show.TheVariants as show
use Rattle.mcs_check_lines.specs.Formats.{column_names, more_columns}
use Rattle.mcs_check_lines.proofs.columns.put_wide_columns.Goals as goal

pub returns-in-Findings-clause-ok : goal.returns-in-Findings-clause-ok
returns-in-Findings-clause-ok c =
    let names : map (λ name. name.now) c.as_slice.result.now ≡ column_names show.Findings ++ more_columns show.Findings = search rules in
    rw c.in-Findings.is (rw names at c.put_names.ensures.ok)

pub returns-in-Jobs-clause-ok : goal.returns-in-Jobs-clause-ok
returns-in-Jobs-clause-ok c =
    let names : map (λ name. name.now) c.as_slice-in-Jobs.result.now ≡ column_names show.Jobs ++ more_columns show.Jobs = search rules in
    rw c.in-Jobs.is (rw names at c.put_names-in-Jobs.ensures.ok)
