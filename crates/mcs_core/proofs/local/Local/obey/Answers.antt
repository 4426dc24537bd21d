use Rattle.std.proofs.Common.{◌≡◌, Option, Some, refl, subst, sym, ◌∙◌}
use Rattle.mcs_ticks.specs.Queue.{by_priority}
use Rattle.mcs_ticks.specs.declared.row.What.TheVariants.{Order}
use Rattle.mcs_core.specs.declared.standing.Chosen.{Chosen}
use Rattle.mcs_core.specs.stored.Parts.{Makes}
use Rattle.mcs_core.specs.Turn.{says, orders_running}
use Rattle.mcs_core.proofs.Loops.{then-makes}
use Rattle.mcs_core.proofs.Runs.{on_ok-map}
use Rattle.mcs_core.proofs.local.Local.obey.Goals as goal

pub returns-then-eq : goal.returns-then-eq
returns-then-eq g c =
    let obeys = orders_running by_priority c.args.here.now.system.now c.args.here.now.moment c.args.order in
    let running : Some c.in-Some.chosen ≡ c.args.self.now.running = sym c.in-Some.is ∙ c.running.ensures in
    let Follows : Option Chosen → Type 0 = λ chosen. Makes g.S.Sink.takes c.args.here.now (obeys chosen c.args.self.now) c.obey_running.new.self c.tell.new.self c.obey_running.new.log in
    on_ok-map _ _ c.obey_running.result
    (λ (h : Follows (Some c.in-Some.chosen)).
    then-makes c.args.here.now (says (Order c.args.order.context) c.args.self.now) (obeys c.args.self.now.running)
    c.args.self.now c.obey_running.new.self c.args.log.now c.tell.new.self c.obey_running.new.log (record { core = refl; adds = c.in_ok-tell.ensures })
    (subst Follows running h))
    c.obey_running.ensures
