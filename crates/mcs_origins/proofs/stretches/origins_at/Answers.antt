-- One stretch more.
use Rattle.std.proofs.Common.{◌≤◌, List, ◌++◌, ap, sym, ◌∙◌, drop, length, map, arith}
use Rattle.mcs_origins.specs.declared.mark.Mark.{Mark}
use Rattle.mcs_origins.specs.Sets.{at_places}
use Rattle.mcs_origins.specs.stored.Stretches.{all_of, flat}
use Rattle.mcs_origins.proofs.Lists.{flat-drop}
use Rattle.mcs_origins.proofs.Places.{origins-append}
use Rattle.mcs_origins.proofs.stretches.origins_at.Goals as goal

pub loop-i-preserved : goal.loop-i-preserved
loop-i-preserved c =
    let xs = c.args.stretches.now in
    let i = c.loop-i.i in
    let x = c.index-stretches-i.result in
    let within : i ≤ length xs = omega arith in
    let here = map (λ (mark : Mark). mark.origin) (at_places c.args.places (all_of x)) in
    c.in_ok-append_at.ensures ∙ ap (λ l. l ++ here) c.loop-i.invariant ∙ sym (origins-append c.args.places (flat (drop i xs)) (all_of x))
    ∙ ap (λ (l : List Mark). map (λ (mark : Mark). mark.origin) (at_places c.args.places l)) (sym (flat-drop xs i x c.loop-i-test.true within c.index-stretches-i.is))
