-- All origins of the stretch, or none.
use Rattle.std.proofs.Common.{◌≡◌, List, ◌++◌, OnOk, ap, sym, ◌∙◌, map, subst, append-nil}
use Rattle.mcs_origins.specs.declared.mark.Mark.{Mark}
use Rattle.mcs_origins.proofs.Places.{stretch-at, stretch-not-at}
use Rattle.mcs_origins.proofs.stretches.append_at.Goals as goal

pub returns-then-is_at : goal.returns-then-is_at
returns-then-is_at c =
    let old = c.args.origins.now.items in
    subst (λ (l : List Mark). OnOk c.append_origins.result (c.append_origins.new.origins.items ≡ old ++ map (λ (mark : Mark). mark.origin) l))
    (sym (stretch-at c.args.stretch.now c.args.places (sym c.is_at.ensures ∙ c.if-is_at.true))) c.append_origins.ensures

pub returns-else-is_at : goal.returns-else-is_at
returns-else-is_at c =
    let old = c.args.origins.now.items in
    sym (ap (λ (l : List Mark). old ++ map (λ (mark : Mark). mark.origin) l) (stretch-not-at c.args.stretch.now c.args.places (sym c.is_at.ensures ∙ c.if-is_at.false)) ∙ append-nil old)
