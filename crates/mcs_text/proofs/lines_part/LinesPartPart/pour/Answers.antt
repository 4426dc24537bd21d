use Rattle.std.proofs.Common.{◌≡◌, ◌∙◌, ◌<◌, suc, ap, subst, sym}
use Rattle.std.specs.Prelude.{IfSome}
use Rattle.mcs_ticks.specs.Given.{Given}
use Rattle.mcs_merge.specs.Merge.{rows_at}
use Rattle.mcs_merge.specs.Parts.{rows_from}
use Rattle.mcs_merge.proofs.Helds.{err_same}
use Rattle.mcs_text.specs.Lines.{text_at}
use Rattle.mcs_text.specs.Parts.{LinesPart, TakesText, HoldsRows, left_of, next_of, with_bytes}
use Rattle.mcs_text.proofs.Parts.{pour-fewer, pour-given, pour-refused}
use Rattle.mcs_text.proofs.lines_part.LinesPartPart.pour.Goals as goal

pub returns-in_err-append-clause-refused : goal.returns-in_err-append-clause-refused
returns-in_err-append-clause-refused c = λ rows o h.
    err_same c.from_residual.result
    (pour-refused c.args.out.now c.append.new.self c.args.self.now rows c.requires c.in_err-append.ensures.refused h)

pub returns-clause-fewer : goal.returns-clause-fewer
returns-clause-fewer c =
    subst (λ part. left_of part < left_of c.args.self.now) (sym c.pass.ensures) (pour-fewer c.args.self.now c.requires)

pub returns-clause-given : goal.returns-clause-given
returns-clause-given c = λ rows o h.
    let part : LinesPart = c.args.self.now in
    let text = c.args.out.now in
    let after = c.append.new.self in
    let taken : after ≡ with_bytes text (text_at part.lines part.place) = c.in_ok-append.ensures.taken ∙ ap (with_bytes text) c.first_lines.ensures in
    subst (λ (rest : LinesPart). IfSome (next_of part) (λ t. Given TakesText text (rows_at t rows) after × HoldsRows after.system rest (rows_from (suc t) rows))) (sym c.pass.ensures)
    (pour-given text after part rows c.requires taken h)
