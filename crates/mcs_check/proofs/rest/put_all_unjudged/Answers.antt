use Rattle.std.proofs.Common.{◌≡◌, ◌∙◌, ◌++◌, ◌∷◌, ◌+◌, ap, append_assoc, drop, flat_map, sym}
use Rattle.std.proofs.lemmas.List.{drop_more}
use Rattle.mcs_check_lines.specs.Unjudged.{unjudged_line}
use Rattle.mcs_check.proofs.rest.put_all_unjudged.Goals as goal

pub loop-unjudged-preserved : goal.loop-unjudged-preserved
loop-unjudged-preserved c =
    let format = c.args.format in
    let system = c.args.system.now in
    let all = c.args.all.now in
    let i = c.loop-unjudged.unjudged-index in
    let one = c.unjudged-item.result in
    let old = c.loop-unjudged.text.items in
    let rest = flat_map (unjudged_line format system) (drop (i + 1) all) in
    let split : drop i all ≡ one ∷ drop (i + 1) all =
    drop_more all i one c.loop-unjudged-test.true ∙ ap (λ u. u ∷ drop (i + 1) all) (sym c.unjudged-item.is) in
    ap (λ text. text ++ rest) c.in_ok-put_unjudged_as.ensures.ok ∙ append_assoc old (unjudged_line format system one) rest
    ∙ ap (λ l. old ++ flat_map (unjudged_line format system) l) (sym split) ∙ c.loop-unjudged.invariant
