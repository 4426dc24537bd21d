use Rattle.std.proofs.Common.{List, sym, ap, ◌∙◌}
use Rattle.mcs_ticks.specs.Queue.{by_priority}
use Rattle.mcs_release.specs.declared.dated.Dated.{Dated}
use Rattle.mcs_release.specs.Release.{without}
use Rattle.mcs_core.specs.Turn.{released, releases}
use Rattle.mcs_core.proofs.Loops.{goes-step, goes-end}
use Rattle.mcs_core.proofs.Released.{released-is, none-released, none-left, made-released}
use Rattle.mcs_core.proofs.Systems.{one-each}
use Rattle.mcs_core.proofs.local.Local.releases.Goals as goal

pub release-requires : goal.release-requires
release-requires g c =
    let i = released-is c.args.here.now.system.now c.args.here.now.core (one-each c.args.here.now.system.now c.requires.well_formed) c.args.here.now.moment c.requires.soon c.in-Some.thread c.due.self c.due.invariant.sound (sym c.take_due.ensures.taken ∙ c.in-Some.is) in
    rw (c.take_due.ensures.left, i.left) i.free

pub due-smaller : goal.due-smaller
due-smaller g c =
    let i = released-is c.args.here.now.system.now c.args.here.now.core (one-each c.args.here.now.system.now c.requires.well_formed) c.args.here.now.moment c.requires.soon c.in-Some.thread c.due.self c.due.invariant.sound (sym c.take_due.ensures.taken ∙ c.in-Some.is) in
    rw (c.in_ok-release.ensures.core, c.take_due.ensures.left, i.left) i.fewer

pub due-preserved : goal.due-preserved
due-preserved g c =
    let i = released-is c.args.here.now.system.now c.args.here.now.core (one-each c.args.here.now.system.now c.requires.well_formed) c.args.here.now.moment c.requires.soon c.in-Some.thread c.due.self c.due.invariant.sound (sym c.take_due.ensures.taken ∙ c.in-Some.is) in
    record {
      sound = rw (c.in_ok-release.ensures.core, c.take_due.ensures.left, i.left) i.sound;
      goes = goes-step c.args.here.now _ _ c.args.log.now c.due.log c.release.new.log
          (released by_priority i.due (record c.due.self { releases = without c.in-Some.thread c.due.self.releases }))
          (releases by_priority c.args.here.now.system.now c.args.here.now.moment) c.release.new.self
          c.due.invariant.goes i.step
          (made-released c.args.here.now i.due c.in-Some.thread (record c.due.self { releases = without c.in-Some.thread c.due.self.releases }) c.take_due.new.self c.release.new.self
          c.due.log c.release.new.log i.its
          (c.take_due.ensures.left ∙ ap (λ (queue : List Dated). record c.due.self { releases = queue }) i.left) c.in_ok-release.ensures);
    }

pub returns : goal.returns
returns g c =
    rw (
      c.take_due.ensures.left,
      none-left c.args.here.now.system.now c.args.here.now.core (one-each c.args.here.now.system.now c.requires.well_formed) c.args.here.now.moment c.requires.soon c.due.self (sym c.take_due.ensures.taken ∙ c.in_default.is),
    )
    (goes-end c.args.here.now _ _ c.args.log.now c.due.log c.due.self c.due.invariant.goes
    (none-released c.args.here.now.system.now c.args.here.now.core (one-each c.args.here.now.system.now c.requires.well_formed) c.args.here.now.moment c.requires.soon c.due.self c.due.invariant.sound (sym c.take_due.ensures.taken ∙ c.in_default.is)))
