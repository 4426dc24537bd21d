use Rattle.std.proofs.Common.{rules, ◌≡◌, ◌++◌, ◌∷◌, [], None, sym, subst}
use Rattle.mcs_merge.specs.Parts.{Hold}
use Rattle.mcs_merge.proofs.Parts.{adds-none, adds-first, adds-behind}
use Rattle.mcs_merge.proofs.waiting.Waiting.add.Goals as goal

pub returns-then-is_none-clause-added : goal.returns-then-is_none-clause-added
returns-then-is_none-clause-added g c = λ out rows more h k.
    let part = g.P.Part in
    let old = c.self.inside in
    let none : part.first old.front ≡ None = search rules in
    let new : c.replace.new.dest ≡ c.args.part = search rules in
    subst (λ front. Hold part.holds out (front ∷ old.later.items) (rows ++ more)) (sym new)
    (adds-first g.P.Out.Sink.takes part.holds part.first g.met.P.Part.is_first g.met.P.Part.holds_on out old.front c.args.part old.later.items rows more none (c.self.invariant.in_line none)
    (subst (λ parts. Hold part.holds out parts rows) (sym c.self.view_is) h) k)

pub returns-then-is_none-2-clause-added : goal.returns-then-is_none-2-clause-added
returns-then-is_none-2-clause-added g c = λ out rows more h k.
    let part = g.P.Part in
    let none : part.first c.args.part ≡ None = search rules in
    adds-none g.P.Out.Sink.takes part.holds part.first g.met.P.Part.is_first g.met.P.Part.holds_on out c.args.self.now c.args.part rows more none h k

pub returns-in-Ok-clause-added : goal.returns-in-Ok-clause-added
returns-in-Ok-clause-added g c = λ out rows more h k.
    let part = g.P.Part in
    let old = c.self.inside in
    let new : c.push_back.new.self.items ≡ old.later.items ++ c.args.part ∷ [] = search rules in
    subst (λ later. Hold part.holds out (old.front ∷ later) (rows ++ more)) (sym new)
    (adds-behind g.P.Out.Sink.takes part.holds part.first g.met.P.Part.is_first g.met.P.Part.holds_on out (old.front ∷ old.later.items) c.args.part rows more
    (subst (λ parts. Hold part.holds out parts rows) (sym c.self.view_is) h) k)
