use Rattle.std.proofs.Common.{◌≡◌, ◌++◌, length, take, drop, replicate, ap, sym, ◌∙◌, arith}
use Rattle.std.proofs.lemmas.Grind.{common_steps}
use Rattle.mcs_ever.specs.Marks.{no_mark}
use Rattle.mcs_ever.proofs.Marking.{marks-first, marks-many}
use Rattle.mcs_ever.proofs.marks.Marks.clear.Goals as goal

pub returns-clause-anew : goal.returns-clause-anew
returns-clause-anew c system rows is =
    let forgotten : take c.self.inside.marks.len (c.fill.new.self ++ drop (length c.fill.new.self) c.self.inside.marks.items) ≡ replicate (length c.args.self.now) no_mark = grind (arith, common_steps) in
    forgotten ∙ ap (λ n. replicate n no_mark) (ap length is ∙ marks-many system rows) ∙ sym (marks-first system)
