use Rattle.std.proofs.Common.{◌∙◌, ◌<◌, ◌≤◌, length, get_or, None, subst, sym, arith}
use Rattle.mcs_way.specs.Stances.{IsNext}
use Rattle.mcs_way.specs.Trace.{since_of}
use Rattle.mcs_way.proofs.Standings.{own-stance, put-stance, past-stance}
use Rattle.mcs_way.proofs.stance.stand.Goals as goal

pub returns-then-thread-stances : goal.returns-then-thread-stances
returns-then-thread-stances c = λ old new past e up own before after next.
    let stances = c.args.stances.now in
    let r = c.args.row.now in
    let thread = c.args.thread in
    let has : c.thread.inside.0 < length c.args.stances.now = omega arith in
    let was = own-stance stances old past c.thread.inside.0 thread c.index-stances-thread.result c.args.before e c.thread.view_is has c.index-stances-thread.is before in
    let follows : IsNext r.moment c.args.before c.args.after =
    subst (λ b. IsNext r.moment b c.args.after) (sym before)
    (subst (λ a. IsNext r.moment (since_of (get_or old thread None)) a) (sym after) next.own)
    in
    put-stance stances old new past r c.thread.inside.0 thread c.see.new.self c.args.after e c.thread.view_is own next after
    (c.see.ensures thread past (sym c.index-stances-thread.is ∙ was) up own follows)

pub returns-else-thread-stances : goal.returns-else-thread-stances
returns-else-thread-stances c = λ old new past e up own before after next.
    let none : length c.args.stances.now ≤ c.thread.inside.0 = omega arith in
    past-stance c.args.stances.now old new past c.args.row.now c.thread.inside.0 c.args.thread e c.thread.view_is none own next
