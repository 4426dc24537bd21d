use Rattle.std.proofs.Common.{◌∙◌, ◌+◌, ◌<◌, ◌^◌, ap, subst, sym, arith}
use Rattle.mcs_verdict.specs.Standing.{telling}
use Rattle.mcs_verdict.specs.Stood.{all_ticks}
use Rattle.mcs_verdict.proofs.Orders.{since-up_to}
use Rattle.mcs_way.specs.declared.stance.Stance.{Stance}
use Rattle.mcs_way.specs.Stances.{passed, stance_of}
use Rattle.mcs_way.proofs.Standings.{stance-small, stood-now}
use Rattle.mcs_way.proofs.stance.Stance.stood_at.Goals as goal

pub returns : goal.returns
returns c = λ thread past e up.
    let m = c.args.moment in
    let from = c.args.from in
    let rows = telling thread past in
    let small : all_ticks (stance_of from rows).stood + m < 2 ^ 64 = stance-small from m rows (since-up_to thread m past up) (omega arith) in
    c.passed.ensures (subst (λ (s : Stance). all_ticks s.stood + m < 2 ^ 64) (sym e) small)
    ∙ ap (λ (s : Stance). passed m from s) e
    ∙ stood-now thread m from past up
