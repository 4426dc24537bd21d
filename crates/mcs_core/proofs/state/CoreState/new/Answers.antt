use Rattle.std.proofs.Common.{◌≡◌, length, ap, sym, subst, ◌∙◌, rules}
use Rattle.mcs_system.specs.System.{System}
use Rattle.mcs_core.specs.Core.{opening_core}
use Rattle.mcs_core.specs.Alarms.{alarms_of, AreShort}
use Rattle.mcs_core.specs.Orders.{orders_of}
use Rattle.mcs_core.proofs.Opening.{fits-opening, state-opening}
use Rattle.mcs_core.proofs.Ringing.{alarms-short}
use Rattle.mcs_core.proofs.Systems.{delays-are}
use Rattle.mcs_core.proofs.state.CoreState.new.Goals as goal

pub returns-clause-state : goal.returns-clause-state
returns-clause-state c =
    let same = c.parts-parts.ensures.same in
    let many : length c.delays_from.result ≡ 64 = search rules in
    state-opening c.args.system.now c.args.core _ _ _ _
    (c.in_ok-local.ensures ∙ ap (λ (s : System). opening_core s c.args.core) same)
    (c.in_ok-agenda.ensures ∙ ap (λ (s : System). orders_of s c.args.core) same)
    (c.in_ok-beats.ensures ∙ ap (λ (s : System). alarms_of s c.args.core) same)
    (delays-are c.args.system.now c.args.core _ many c.delays_from.ensures)

pub returns-clause-fits : goal.returns-clause-fits
returns-clause-fits c =
    let same = c.parts-parts.ensures.same in
    let many : length c.delays_from.result ≡ 64 = search rules in
    fits-opening c.args.system.now c.parts-parts.ensures.well_formed c.args.core c.requires _ _ _ _
    (c.in_ok-local.ensures ∙ ap (λ (s : System). opening_core s c.args.core) same)
    (c.in_ok-agenda.ensures ∙ ap (λ (s : System). orders_of s c.args.core) same)
    (c.in_ok-beats.ensures ∙ ap (λ (s : System). alarms_of s c.args.core) same)
    (delays-are c.args.system.now c.args.core _ many c.delays_from.ensures)

pub new-requires-2 : goal.new-requires-2
new-requires-2 c =
    let W : System → Type 0 = λ s. AreShort (alarms_of s c.args.core) in
    rw (c.deref.ensures.value, c.in_ok-beats.ensures)
    (subst W (sym c.parts-parts.ensures.same) (alarms-short c.args.system.now c.args.core c.parts-parts.ensures.well_formed))
