use Rattle.std.proofs.Common.{◌≡◌, ◌∙◌, ◌<◌, ◌≤◌, length, get_or, None, ap, sym, arith}
use Rattle.mcs_way.specs.Stances.{stood_since}
use Rattle.mcs_way.specs.Trace.{since_of}
use Rattle.mcs_way.proofs.Standings.{own-stance, no-stance}
use Rattle.mcs_way.proofs.stance.stood_of.Goals as goal

pub returns-then-thread-stances : goal.returns-then-thread-stances
returns-then-thread-stances c = λ spots past e up since.
    let has : c.thread.inside.0 < length c.args.stances.now = omega arith in
    c.stood_at.ensures c.args.thread past
    (own-stance c.args.stances.now spots past c.thread.inside.0 c.args.thread c.index-stances-thread.result c.args.from e c.thread.view_is has
    c.index-stances-thread.is since) up

pub returns-else-thread-stances : goal.returns-else-thread-stances
returns-else-thread-stances c = λ spots past e up since.
    let none : length c.args.stances.now ≤ c.thread.inside.0 = omega arith in
    let is_none : get_or spots c.args.thread None ≡ None = no-stance c.args.stances.now spots past c.thread.inside.0 c.args.thread e c.thread.view_is none in
    c.new.ensures ∙ ap (stood_since c.args.thread past c.args.moment) (sym (since ∙ ap since_of is_none))
