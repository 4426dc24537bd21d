use Rattle.std.proofs.Common.{sym, ◌∙◌, lit<}
use Rattle.mcs_script.proofs.Parts.{parts-found, parts-last, not_empty}
use Rattle.mcs_script.proofs.raw.next_part.Goals as goal

pub returns-then-not-is_empty : goal.returns-then-not-is_empty
returns-then-not-is_empty c =
    let cut = c.in-Some.ensures.byte (lit< tt) (λ w o h. h) in
    sym c.loop-part.invariant.1
    ∙ parts-found c.loop-part.rest.now c.in-Some.part.now c.in-Some.behind.now cut.0 cut.1 cut.2 (not_empty c.in-Some.part.now (sym c.is_empty.ensures ∙ c.if-not-is_empty.true))

pub returns-else-is_empty : goal.returns-else-is_empty
returns-else-is_empty c =
    let none = c.in_default.ensures.byte (lit< tt) (λ w o h. h) in
    sym c.loop-part.invariant.1 ∙ parts-last c.loop-part.rest.now none (not_empty c.loop-part.rest.now (sym c.is_empty-2.ensures ∙ c.if-is_empty.false))
