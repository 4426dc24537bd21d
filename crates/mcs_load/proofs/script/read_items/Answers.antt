use Rattle.std.proofs.Common.{◌≡◌, ◌∙◌, ◌+◌, suc, length, sym, arith}
use Rattle.std.proofs.lemmas.Result.{err_from_is_err_and}
use Rattle.mcs_load.specs.Script.{next_item}
use Rattle.mcs_load.specs.stored.Reading.{reading_view}
use Rattle.mcs_load.proofs.Each.{next_fails, next_passes}
use Rattle.mcs_load.proofs.script.read_items.Goals as goal

pub returns-in_err-read_next : goal.returns-in_err-read_next
returns-in_err-read_next c =
    let p = err_from_is_err_and c.from_residual-in_err-read_next.result c.from_residual-in_err-read_next.ensures.1 in
    let known = c.args.known.now in
    let step = next_item known.notes.now known.servers.now known.core known.priority known.is_new known.is_server c.args.at in
    rw (p.1, p.2) (λ h. sym c.loop-i.invariant.tests ∙ next_fails step (reading_view c.loop-i.reading) c.args.values.now c.loop-i.i c.index-values-i.result c.in_err-read_next.field-0.0 (omega arith) c.index-values-i.is (c.in_err-read_next.ensures.gives h))

pub loop-i-preserved : goal.loop-i-preserved
loop-i-preserved c =
    let known = c.args.known.now in
    let step = next_item known.notes.now known.servers.now known.core known.priority known.is_new known.is_server c.args.at in
    let next = next_passes step (reading_view c.loop-i.reading) c.args.values.now c.loop-i.i c.index-values-i.result (reading_view c.read_next.new.reading) (omega arith) c.index-values-i.is c.in_ok-read_next.ensures.gives in
    record {
      tests = next.0 ∙ c.loop-i.invariant.tests;
      value = next.1 ∙ c.loop-i.invariant.value;
      count = omega (arith, c.in_ok-read_next.ensures.count, c.loop-i.invariant.count);
    }
