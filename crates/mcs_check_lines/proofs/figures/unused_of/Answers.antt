use Rattle.std.proofs.Common.{◌≡◌, ◌∙◌, ℕ, ap, sym, subst}
use Rattle.mcs_verdict.specs.Findings.{UpTo}
use Rattle.mcs_table.specs.Table.{Table}
use Rattle.mcs_table.specs.Unused.{unused_of}
use Rattle.mcs_check_lines.proofs.figures.unused_of.Goals as goal

pub returns : goal.returns
returns c horizon past watch table up =
    let P : ℕ → Type 0 = λ moment. UpTo moment past in
    let until : c.args.table.now.horizon ≡ horizon = ap (λ (t : Table). t.horizon) table in
    c.unused.ensures past watch (subst P (sym until) up) ∙ ap (λ h. unused_of c.args.system.now h past c.args.context) until
