-- The origins one row later. If the row answers none, and no slow answer has the moment of the row
-- before it, they are all that changes.
use Rattle.std.proofs.Common.{◌≡◌, ◌∙◌, ◌∷◌, true, eqb, List, [], length, arith, refl, ap, ap₂}
use Rattle.std.proofs.lemmas.Bool.Decides.{nat_tests}
use Rattle.mcs_chain.specs.Answers.{origins}
use Rattle.mcs_chain.specs.Origins.{Origins, moved}
use Rattle.mcs_chain.specs.Watch.{One}
use Rattle.mcs_chain.proofs.one.One.take.Goals as goal

none-left : {A : Type 0} (all : List A) → true ≡ eqb (length all) 0 → all ≡ []
none-left [] e = refl
none-left (x ∷ all) e = absurd (grind (arith, nat_tests, e))

pub returns : goal.returns
returns c = λ system past e moves_are.
    let chain = c.args.chain.now in
    let row = c.args.row.now in
    let own = c.self.view_is ∙ e in
    let origins_are : c.see.new.self ≡ origins system chain (row ∷ past) =
    c.in_ok-see.ensures.ok ∙ ap₂ (moved chain row.moment) moves_are (ap (λ (one : One). one.origins) own) in
    c.judge.ensures system past (ap₂ (λ (o : Origins) (one : One). record one { origins = o }) origins_are own)
