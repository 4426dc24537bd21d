use Rattle.std.proofs.Common.{◌≡◌, ◌+◌, ◌<◌, sym, subst, rules}
use Rattle.mcs_system.specs.System.{core_of, thread_part}
use Rattle.mcs_window.specs.stored.Reaches.{AreReachesOf}
use Rattle.mcs_window.proofs.Reaching.{reaches-more}
use Rattle.mcs_window.proofs.reach.mark_maker.Goals as goal

pub returns : goal.returns
returns c =
    let is : c.maker.inside.0 ≡ core_of c.args.system.now (thread_part c.args.system.now c.args.thread) = search rules in
    let known : c.maker.inside.0 < c.args.system.now.cores = search rules in
    reaches-more c.args.system.now c.args.thread c.args.rows.now c.requires.before c.maker.inside.0 c.mark_items.new.row is known
    (subst (λ d. AreReachesOf c.args.system.now d (c.args.thread + 1) 0 c.mark_items.new.row) (sym is) c.mark_items.ensures)
