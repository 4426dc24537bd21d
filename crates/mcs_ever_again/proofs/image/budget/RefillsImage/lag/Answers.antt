use Rattle.std.proofs.Common.{◌≡◌, List, map, sym, ap, ◌∙◌}
use Rattle.mcs_refills.specs.declared.refill.Refill.{Refill}
use Rattle.mcs_ever.specs.Later.{later_dates}
use Rattle.mcs_ever_again.specs.Lag.{later_refill, TellsLag}
use Rattle.mcs_ever_again.proofs.RefillDates.{dates-are-later, refills-are-later}
use Rattle.mcs_ever_again.proofs.Told.{tells-lag}
use Rattle.mcs_ever_again.proofs.image.budget.RefillsImage.lag.Goals as goal

pub returns : goal.returns
returns c =
    let before : List Refill = c.before-2.inside.refills.items in
    let after : List Refill = c.self.inside.refills.items in
    let told : TellsLag c.refills_lag.result c.args.by (λ lag. after ≡ map (later_refill lag) before) =
    rw (c.deref.ensures.value, c.deref-2.ensures.value) at c.refills_lag.ensures in
    tells-lag _ _ _ (λ lag. c.args.self.now ≡ later_dates lag c.args.before.now)
    (λ lag same. sym c.self.view_is ∙ dates-are-later lag before after same ∙ ap (later_dates lag) c.before-2.view_is)
    (λ lag same. refills-are-later lag before after c.before-2.invariant c.self.invariant
    (c.self.view_is ∙ same ∙ ap (later_dates lag) (sym c.before-2.view_is)))
    told
