-- A round that answers nothing drops nothing.
use Rattle.std.proofs.Common.{◌≡◌, [], set, ◌∙◌, arith}
use Rattle.std.proofs.lemmas.Grind.{common_steps}
use Rattle.mcs_chain.specs.Origins.{rest}
use Rattle.mcs_chain.proofs.Nothing.{ends-nothing}
use Rattle.mcs_chain.proofs.origins.Origins.end.Goals as goal

pub returns-then-is_empty-clause-ok : goal.returns-then-is_empty-clause-ok
returns-then-is_empty-clause-ok c =
    let o = c.args.self.now in
    let cleared : c.rest.new.self ≡ record (rest o) { carried = set o.carried c.args.thread [] } = grind (arith, common_steps) in
    let none : c.args.answered.items ≡ [] = grind (arith, common_steps) in
    cleared ∙ ends-nothing c.args.thread c.args.answered.items o none
