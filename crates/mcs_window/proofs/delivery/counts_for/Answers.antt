use Rattle.std.proofs.Common.{◌<◌, ◌∙◌, refl, arith, rules}
use Rattle.std.proofs.lemmas.List.{get_or-replicate, length-set}
use Rattle.mcs_window.proofs.Settling.{count-fits, counted-more}
use Rattle.mcs_window.proofs.delivery.counts_for.Goals as goal

pub loop-mail-init : goal.loop-mail-init
loop-mail-init c = record { many = refl; are = λ k l. get_or-replicate 64 k 0 0 l }

pub overflow_add-counts : goal.overflow_add-counts
overflow_add-counts c =
    let h = c.counts.inside.0 in
    let known : h < 64 = (let few = c.parts-parts.ensures.well_formed.limits.cores.1 in let there = c.home_of.ensures.known in let same = c.counts.view_is in omega arith) in
    let is = c.loop-mail.invariant.are h known in
    let few = count-fits c.args.system.now h c.loop-mail.mail-index c.args.signals.now in
    search rules

pub loop-mail-preserved : goal.loop-mail-preserved
loop-mail-preserved c =
    let h = c.counts.inside.0 in
    let known : h < 64 = (let few = c.parts-parts.ensures.well_formed.limits.cores.1 in let there = c.home_of.ensures.known in let same = c.counts.view_is in omega arith) in
    let many = c.loop-mail.invariant.many in
    record {
      many = length-set c.loop-mail.counts h _ ∙ many;
      are = counted-more c.args.system.now c.args.signals.now c.loop-mail.mail-index h c.mail-item.result c.loop-mail.counts 64
          (omega arith) c.mail-item.is (c.counts.view_is ∙ c.home_of.ensures.home) (omega arith) c.loop-mail.invariant.are;
    }
