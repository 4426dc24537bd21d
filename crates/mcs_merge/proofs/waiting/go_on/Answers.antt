use Rattle.std.proofs.Common.{rules, ◌≡◌, ◌∷◌, None, sym, subst}
use Rattle.std.specs.Prelude.{Some}
use Rattle.mcs_merge.specs.stored.Parts.{AreInLine}
use Rattle.mcs_merge.proofs.Parts.{in-line}
use Rattle.mcs_merge.proofs.waiting.go_on.Goals as goal

pub returns-in-Some-clause-in_line : goal.returns-in-Some-clause-in_line
returns-in-Some-clause-in_line g c =
    let first = g.P.Part.first in
    let none : first c.args.front.now ≡ None = search rules in
    let lies : c.args.later.now.items ≡ c.in-Some.next ∷ c.pop_front.new.self.items = c.in-Some.ensures.items in
    subst (λ front. AreInLine first front c.pop_front.new.self.items (Some c.replace.result)) (sym c.replace.ensures.after)
    (subst (λ spare. AreInLine first c.in-Some.next c.pop_front.new.self.items (Some spare)) (sym c.replace.ensures.value)
    (in-line first c.args.front.now c.in-Some.next c.args.later.now.items c.pop_front.new.self.items c.requires.behind lies none))
