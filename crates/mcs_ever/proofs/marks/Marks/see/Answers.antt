use Rattle.std.proofs.Common.{◌≡◌, ◌<◌, ◌≤◌, Some, length, sym, ◌∙◌, rules}
use Rattle.mcs_ever.specs.Marks.{joined, compared}
use Rattle.mcs_ever.proofs.Marking.{kept-more, kept-none}
use Rattle.mcs_ever.proofs.marks.Marks.see.Goals as goal

pub returns-then-thread-len : goal.returns-then-thread-len
returns-then-thread-len c rows is =
    let whose : compared c.args.system.now c.args.what.now ≡ Some (c.thread.inside.0, c.in-Some.mark) = search rules in
    let known : c.thread.inside.0 < length c.self.inside.marks.items = search rules in
    let made : c.joined.result ≡ joined c.index-before.result.now c.in-Some.mark = search rules in
    kept-more c.args.system.now rows c.args.what.now c.self.inside.marks.items c.thread.inside.0 c.in-Some.mark c.index-before.result.now c.joined.result (c.self.view_is ∙ is) whose known
    c.index-before.ensures made

pub returns-else-thread-len : goal.returns-else-thread-len
returns-else-thread-len c rows is =
    let whose : compared c.args.system.now c.args.what.now ≡ Some (c.thread.inside.0, c.in-Some.mark) = search rules in
    let far : length c.self.inside.marks.items ≤ c.thread.inside.0 = search rules in
    sym c.self.view_is ∙ kept-none c.args.system.now rows c.args.what.now c.self.inside.marks.items c.thread.inside.0 c.in-Some.mark (c.self.view_is ∙ is) whose far
