use Rattle.std.proofs.Common.{◌≡◌, ◌∙◌, ◌∷◌, ◌+◌, ◌<◌, ◌^◌, ap, subst, sym, arith}
use Rattle.mcs_verdict.specs.Account.{stood_of}
use Rattle.mcs_verdict.specs.Stood.{all_ticks}
use Rattle.mcs_way.specs.declared.stance.Stance.{Stance}
use Rattle.mcs_way.specs.Stances.{passed, stance_of}
use Rattle.mcs_way.proofs.Standings.{stance-small, stance-told}
use Rattle.mcs_way.proofs.stance.Stance.tell.Goals as goal

pub returns : goal.returns
returns c = λ rows e h.
    let r = c.args.row.now in
    let from = c.args.from in
    let small : all_ticks (stance_of from rows).stood + r.moment < 2 ^ 64 = stance-small from r.moment rows h (omega arith) in
    let stood_is : c.passed-self.result ≡ stood_of from (r ∷ rows) =
    c.passed-self.ensures (subst (λ (s : Stance). all_ticks s.stood + r.moment < 2 ^ 64) (sym e) small)
    ∙ ap (λ (s : Stance). passed r.moment from s) e
    ∙ stance-told from r rows h
    in
    cc (stood_is, c.standing_after-self.ensures)
