use Rattle.std.proofs.Common.{◌≡◌, ◌∙◌, ℕ, ap, sym, subst}
use Rattle.mcs_verdict.specs.Findings.{UpTo}
use Rattle.mcs_table.specs.Figures.{figures_of}
use Rattle.mcs_table.specs.Table.{Table, table_of}
use Rattle.mcs_check_lines.proofs.figures.figures_of.Goals as goal

pub returns : goal.returns
returns c horizon past watch table up =
    let P : ℕ → Type 0 = λ moment. UpTo moment past in
    let until : c.args.table.now.horizon ≡ horizon = ap (λ (t : Table). t.horizon) table in
    let own : c.args.table.now ≡ table_of c.args.system.now c.args.table.now.horizon past = table ∙ ap (λ h. table_of c.args.system.now h past) (sym until) in
    c.figures.ensures past own watch (subst P (sym until) up) ∙ ap (λ h. figures_of c.args.system.now h past c.args.thread) until
