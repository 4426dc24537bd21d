use Rattle.std.proofs.Common.{◌≡◌, ◌+◌, [], ◌∷◌, ◌++◌, replicate, rules, subst, sym}
use Rattle.mcs_merge.specs.Parts.{HoldEach}
use Rattle.mcs_team.proofs.Opened.{none-more}
use Rattle.mcs_team.proofs.outflow.empty_parts.Goals as goal

pub loop-preserved : goal.loop-preserved
loop-preserved g c =
    let items : c.push.new.self.items ≡ c.loop.parts.items ++ c.part.result ∷ [] = search rules in (
      search rules,
      λ out fits.
          subst (λ parts. HoldEach g.W.Part.Part.holds out parts (replicate (c.loop.counter + 1) [])) (sym items)
          (none-more g.W.Part.Part.holds out c.loop.parts.items c.part.result c.loop.counter (c.loop.invariant.1 out fits) (c.part.ensures out [] fits tt c.empty.ensures)),
    )
