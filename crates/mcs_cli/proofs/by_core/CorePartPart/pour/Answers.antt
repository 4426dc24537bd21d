use Rattle.std.proofs.Common.{◌<◌, false, suc, true, subst, sym}
use Rattle.std.specs.Prelude.{IfSome}
use Rattle.mcs_ticks.specs.Given.{Given}
use Rattle.mcs_merge.specs.Merge.{rows_at}
use Rattle.mcs_merge.specs.Parts.{rows_from}
use Rattle.mcs_merge.proofs.Helds.{err_same}
use Rattle.mcs_text.specs.Parts.{LinesPart, HoldsRows, left_of, next_of}
use Rattle.mcs_text.proofs.Parts.{pour-fewer}
use Rattle.mcs_cli.specs.Lines.{PutsLines, PutsRow}
use Rattle.mcs_cli.proofs.Puts.{part-given, part-refused}
use Rattle.mcs_cli.proofs.by_core.CorePartPart.pour.Goals as goal

pub returns-clause-fewer : goal.returns-clause-fewer
returns-clause-fewer g c =
    let part = c.args.self.now.lines in
    subst (λ rest. left_of rest < left_of part) (sym c.pass.ensures) (pour-fewer part c.requires)

pub returns-in_err-append-clause-refused : goal.returns-in_err-append-clause-refused
returns-in_err-append-clause-refused g c = λ rows o h.
    let held = g.T.Target.contents in
    let failed = g.T.Target.has_failed in
    let out = c.args.out.now in
    let after = c.append.new.self in
    let put = subst (λ xs. PutsLines held failed out xs false after) c.first_lines.ensures c.in_err-append.ensures in
    err_same c.from_residual.result (part-refused held failed out after c.args.self.now.lines rows c.requires h put)

pub returns-clause-given : goal.returns-clause-given
returns-clause-given g c = λ rows o h.
    let held = g.T.Target.contents in
    let failed = g.T.Target.has_failed in
    let out = c.args.out.now in
    let after = c.append.new.self in
    let part : LinesPart = c.args.self.now.lines in
    let put = subst (λ xs. PutsLines held failed out xs true after) c.first_lines.ensures c.in_ok-append.ensures in
    subst (λ (rest : LinesPart). IfSome (next_of part) (λ t. Given (PutsRow held failed) out (rows_at t rows) after × HoldsRows after.names.now rest (rows_from (suc t) rows)))
    (sym c.pass.ensures) (part-given held failed out after part rows c.requires h put)
