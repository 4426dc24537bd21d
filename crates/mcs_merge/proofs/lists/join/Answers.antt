use Rattle.std.proofs.Common.{◌<◌, ◌≤◌, rules}
use Rattle.mcs_merge.proofs.Joins.{steps_left, steps_right}
use Rattle.mcs_merge.proofs.lists.join.Goals as goal

pub heads-preserved-in_ok-push : goal.heads-preserved-in_ok-push
heads-preserved-in_ok-push c =
    let x = c.in-Some-Some.x.now in
    let y = c.in-Some-Some.y.now in
    let l : x.moment ≤ y.moment = search rules in
    steps_left _ _ x y _ _ _ _ _ _ c.in-Some-Some.ensures.cases.0 c.in-Some-Some.ensures'.cases.0 c.in_ok-push.ensures.items l c.heads.invariant

pub heads-preserved : goal.heads-preserved
heads-preserved c =
    let x = c.in-Some-Some.x.now in
    let y = c.in-Some-Some.y.now in
    let l : y.moment < x.moment = search rules in
    steps_right _ _ x y _ _ _ _ _ _ c.in-Some-Some.ensures.cases.0 c.in-Some-Some.ensures'.cases.0 c.in_ok-push-2.ensures.items l c.heads.invariant
