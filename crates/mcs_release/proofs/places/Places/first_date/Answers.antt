use Rattle.std.proofs.Common.{◌<◌, ◌^◌, ◌∙◌, arith, sym, ap}
use Rattle.mcs_release.specs.Release.{next_date}
use Rattle.mcs_release.specs.stored.Places.{entered}
use Rattle.mcs_release.proofs.Stored.{date-stored}
use Rattle.mcs_release.proofs.places.Places.first_date.Goals as goal

pub returns : goal.returns
returns c =
    let fits : c.index.result.now < 2 ^ 64 = omega arith in
    c.date_of.ensures ∙ sym (date-stored _ _ _ c.self.invariant c.index.result.now c.index.ensures (omega arith)) ∙ ap (λ places. next_date (entered places)) c.self.view_is
