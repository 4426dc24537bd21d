use Rattle.std.proofs.Common.{◌≡◌, ◌∙◌, length-append, sym, ap, arith}
use Rattle.std.proofs.lemmas.Result.{err_from_is_err_and}
use Rattle.toml.specs.View.{view}
use Rattle.mcs_load.specs.Checks.{first_failed}
use Rattle.mcs_load.specs.Words.{row}
use Rattle.mcs_load.proofs.Each.{step_fails, step_passes}
use Rattle.mcs_load.proofs.reader.read_rows.Goals as goal

pub returns-in_err-part-clause-gives : goal.returns-in_err-part-clause-gives
returns-in_err-part-clause-gives g c =
    let p = err_from_is_err_and c.from_residual-in_err-part.result c.from_residual-in_err-part.ensures.1 in
    let fault = c.in_err-part.field-0.0 in
    let parts = c.loop-i.parts.items in
    let earlier : c.as_slice.result.now ≡ parts = c.as_slice.ensures.value in
    let failed = rw earlier at c.in_err-part.ensures.gives in
    let same = ap (λ read. first_failed (row c.args.section read parts (view c.index-rows-i.result)).tests) (sym c.loop-i.invariant.same) in
    rw (p.1, p.2) (λ h. sym c.loop-i.invariant.tests ∙ step_fails (row c.args.section (g.R.RowReader.reads c.args.reader.now)) _ c.args.rows.now c.loop-i.i c.index-rows-i.result fault (omega arith) c.index-rows-i.is (same ∙ failed h))

pub loop-i-preserved : goal.loop-i-preserved
loop-i-preserved g c =
    let x = c.in_ok-part.part in
    let parts = c.loop-i.parts.items in
    let earlier : c.as_slice.result.now ≡ parts = c.as_slice.ensures.value in
    let given = rw earlier at c.in_ok-part.ensures.gives in
    let kept = rw earlier at c.in_ok-part.ensures.kept in
    let tests = ap (λ read. first_failed (row c.args.section read parts (view c.index-rows-i.result)).tests) (sym c.loop-i.invariant.same) in
    let value = ap (λ read. (row c.args.section read parts (view c.index-rows-i.result)).value) (sym c.loop-i.invariant.same) in
    let next = step_passes (row c.args.section (g.R.RowReader.reads c.args.reader.now)) _ c.args.rows.now c.loop-i.i c.index-rows-i.result x (omega arith) c.index-rows-i.is (tests ∙ given.0, value ∙ given.1) in
    rw c.push_reserved.ensures.items
    (record {
      tests = next.0 ∙ c.loop-i.invariant.tests;
      value = next.1 ∙ c.loop-i.invariant.value;
      same = c.in_ok-part.ensures.same ∙ c.loop-i.invariant.same;
      keeps = kept;
      count = omega (arith, length-append {A = g.row.R-Part.Denot}, c.loop-i.invariant.count);
      room = omega (arith, c.push_reserved.ensures.capacity, c.loop-i.invariant.room);
    })
