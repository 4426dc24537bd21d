use Rattle.std.proofs.Common.{◌≡◌, ◌<◌, ◌+◌, length, take, sym, ◌∙◌, subst, arith, rules}
use Rattle.mcs_mail.specs.Box.{put}
use Rattle.mcs_window.proofs.Deliveries.{delivered-more}
use Rattle.mcs_step.specs.stored.Cores.{AreLowered}
use Rattle.mcs_step.proofs.Soon.{lowered-more}
use Rattle.mcs_step.proofs.busy.deliver.Goals as goal

pub lower-requires : goal.lower-requires
lower-requires c = let known = c.home_of.ensures.known in let is = c.home.view_is in let few = c.requires.few in omega arith

pub loop-mail-preserved : goal.loop-mail-preserved
loop-mail-preserved c =
    let s = c.args.system.now in
    let ms = c.args.signals.now in
    let i = c.loop-mail.mail-index in
    let h = c.home.inside.0 in
    let home = c.home.view_is ∙ c.home_of.ensures.home in
    let at_home : h < s.cores = (let there = c.home_of.ensures.known in let same = c.home.view_is in omega arith) in
    let in_boxes : h < length c.args.boxes.now = (let all = c.requires.boxes in omega arith) in
    let in_next : h < length c.args.next.now = (let all = c.requires.next in let few = c.requires.few in omega arith) in
    let there : i < length ms = search rules in
    let puts : c.put.new.self.mails ≡ put c.mail-item.result c.index-boxes-home.result.mails = search rules in
    record {
      delivered = delivered-more s ms i h c.mail-item.result c.args.boxes.now c.loop-mail.boxes c.put.new.self c.index-boxes-home.result
          c.loop-mail.invariant.delivered there c.mail-item.is home in_boxes c.index-boxes-home.is puts;
      lowered = subst (AreLowered s (take (i + 1) ms) c.args.next.now) (sym c.lower.ensures)
          (lowered-more s ms i h c.mail-item.result c.args.next.now c.loop-mail.next c.loop-mail.invariant.lowered there c.mail-item.is home in_next at_home);
    }
