use Rattle.std.proofs.Common.{ℕ, subst}
use Rattle.mcs_ever.specs.Closed.{has}
use Rattle.mcs_ever.specs.Recurs.{Recurs}
use Rattle.mcs_ever_found.specs.Period.{AreKept}
use Rattle.mcs_ever_found.specs.Recurs.{FindingsRecur}
use Rattle.mcs_ever_told.proofs.Since.{are-kept}
use Rattle.mcs_ever_told.proofs.outlook.look.finds_again.Goals as goal

pub returns : goal.returns
returns c = λ yes shifts by_is period recurs.
    let s = c.args.look.now.system.now in
    let run = c.args.look.now.search.now in
    let set = c.args.group.now.set in
    let by = c.args.by in
    let well = c.parts-parts.ensures.well_formed in
    let P : ℕ → Type 0 = λ from. Recurs s (has set) shifts from →
    AreKept s by from c.kept_watch.result.now c.watch.result.now c.doings.result.now → FindingsRecur s (has set) shifts from in
    subst P c.kept.ensures.value (c.findings_recur.ensures.recurs yes shifts by_is) recurs
    (are-kept s run c.requires well (c.rows_tell_turns.ensures s well) by period _ _ _ c.kept_watch.ensures c.watch.ensures c.doings.ensures)
