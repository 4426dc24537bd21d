use Rattle.std.proofs.Common.{◌≡◌, ◌∙◌, ap, subst, sym}
use Rattle.std.specs.Prelude.{fold}
use Rattle.mcs_text.specs.Lines.{Lines, no_lines, with_row}
use Rattle.mcs_text.specs.Parts.{LinesPart, HoldsRows}
use Rattle.mcs_text.proofs.Moments.{lines-hold}
use Rattle.mcs_cli.proofs.by_core.ByCoreRelay.part.Goals as goal

pub returns : goal.returns
returns g c = λ out rows fits o h.
    let told = c.args.told.told in
    let system = out.names.now in
    let same : told.lines.system ≡ system = c.args.told.of_system ∙ sym fits in
    let are : told.lines ≡ fold with_row (no_lines system) rows = h.lines ∙ ap (λ s. fold with_row (no_lines s) rows) same in
    let all : LinesPart = record { lines = told.lines; place = 0 } in
    let is : c.new.result ≡ all = c.new.ensures ∙ ap (λ (lines : Lines). record { lines = lines; place = 0 }) c.into_lines.ensures in
    subst (λ part. HoldsRows system part rows) (sym is) (lines-hold system rows told.lines are o)
