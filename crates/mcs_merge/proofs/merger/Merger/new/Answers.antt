use Rattle.std.proofs.Common.{◌∙◌, subst, sym}
use Rattle.mcs_merge.specs.Parts.{parts_of, AreHeld}
use Rattle.mcs_merge.specs.stored.Parts.{IsInLine}
use Rattle.mcs_merge.proofs.Nexts.{alone-in-line}
use Rattle.mcs_merge.proofs.Pouring.{alone-held}
use Rattle.mcs_merge.proofs.merger.Merger.new.Goals as goal

pub heads_of-requires-clause-in_line : goal.heads_of-requires-clause-in_line
heads_of-requires-clause-in_line g c = λ core l.
    subst (λ cores. IsInLine g.P.Part.first (parts_of core cores)) (sym (c.as_slice.ensures.value ∙ c.in_ok-cores.ensures)) (alone-in-line g.P.Part.first c.args.parts.items core)

pub returns-clause-held : goal.returns-clause-held
returns-clause-held g c = λ out lists h.
    subst (λ cores. AreHeld g.P.Part.holds out cores lists) (sym c.in_ok-cores.ensures) (alone-held g.P.Part.holds out c.args.parts.items lists h)
