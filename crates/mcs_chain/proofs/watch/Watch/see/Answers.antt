-- A row that moves nothing leaves the watch as it is.
use Rattle.std.proofs.Common.{rules, ◌≡◌, ◌∙◌, true, ap, sym}
use Rattle.mcs_chain.specs.stored.Still.{are_still, is_quiet}
use Rattle.mcs_chain.specs.Watch.{Watch, watch_of}
use Rattle.mcs_chain.proofs.Still.{watch-stays}
use Rattle.mcs_chain.proofs.watch.Watch.see.Goals as goal

pub returns-then-are_still : goal.returns-then-are_still
returns-then-are_still c = λ past e.
    let system = c.args.system.now in
    let row = c.args.row.now in
    let quiet : is_quiet c.args.row.now.what ≡ true = search rules in
    let still : are_still c.self.inside.each.items ≡ true = search rules in
    let each_are : c.self.inside.each.items ≡ (watch_of system past).each = ap (λ (w : Watch). w.each) (c.self.view_is ∙ e) in
    e ∙ watch-stays system past row quiet (ap are_still (sym each_are) ∙ still)
