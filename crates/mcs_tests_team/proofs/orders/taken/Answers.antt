use Rattle.std.proofs.Common.{◌∙◌, ap, subst, sym, All}
use Rattle.std.proofs.lemmas.List.Elements.{All-push}
use Rattle.mcs_merge.specs.Merge.{DoNotFall}
use Rattle.mcs_window.specs.Progress.{Progress, clock_of, taken_of}
use Rattle.mcs_stretch.proofs.Merging.{order-between}
use Rattle.mcs_tests_team.proofs.orders.taken.Goals as goal

pub loop-number-preserved : goal.loop-number-preserved
loop-number-preserved c =
    let p = c.loop-number.cores in
    let k = c.loop-number.number in
    record {
      system_is = ap (λ (q : Progress). q.system) c.take_rows-rows.ensures.taken ∙ c.loop-number.invariant.system_is;
      in_order = subst (All (λ rows. DoNotFall rows.items)) (sym c.in_ok-push.ensures.items)
          (All-push (λ rows. DoNotFall rows.items) c.loop-number.lists.items c.take_rows-rows.result c.loop-number.invariant.in_order
          (subst DoNotFall (sym c.take_rows-rows.ensures.rows) (order-between p.system k (taken_of p k) (clock_of p k))));
    }
