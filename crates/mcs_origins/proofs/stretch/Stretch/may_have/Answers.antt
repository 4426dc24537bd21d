use Rattle.std.proofs.Common.{◌≤◌, ◌-◌, ◌*◌, sym, ◌∙◌, arith}
use Rattle.mcs_origins.proofs.Left.{none-between}
use Rattle.mcs_origins.proofs.stretch.Stretch.may_have.Goals as goal

pub returns : goal.returns
returns c = λ none.
    let a = c.args.self.now in
    let first = c.at.result in
    let low : first ≤ a.last - a.step * a.more = omega (arith, c.at.ensures) in
    let high : a.last ≤ a.last = omega arith in
    none-between c.args.answered.now first a.last a.last a.step a.places a.more high low (sym c.is_any_between.ensures ∙ none)
