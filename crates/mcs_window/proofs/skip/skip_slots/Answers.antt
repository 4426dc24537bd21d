use Rattle.std.proofs.Common.{◌<◌, ◌≤◌, ◌∙◌, length, get_or, arith}
use Rattle.std.specs.Prelude.{slice_index}
use Rattle.std.proofs.lemmas.Grind.{get_or_default_zero}
use Rattle.mcs_stretch.proofs.Later.{takes_time}
use Rattle.mcs_window.proofs.Skipping.{may-skip, stands-still, slots-more, slots-same}
use Rattle.mcs_window.proofs.skip.skip_slots.Goals as goal
use Rattle.mcs_window.proofs.skip.skip_slots.Goals.{then-get, else-get}

pub skip_slot-requires-clause-may : goal.skip_slot-requires-clause-may
skip_slot-requires-clause-may c =
    let s = c.args.system.now in
    let clocks = c.args.clocks.now in
    let k = c.loop-core.core in
    let x = c.index-slots-core.result in
    let known : k < s.cores = rw c.parts.ensures.same at c.loop-core-test.true in
    let there : k < length c.loop-core.clocks = (let all = c.loop-core.auto.clocks in let enough = c.requires.clocks in omega arith) in
    let clock = c.index-clocks-core.is ∙ get_or_default_zero c.loop-core.clocks k c.index-clocks-core.result there in
    let left = c.loop-core.invariant.clocks_are.left k (omega arith) in
    let before = c.if-get.true in
    let early : slice_index clocks k < c.args.moment = omega arith in
    may-skip s (takes_time s c.requires.well_formed) clocks c.args.moment c.requires.clocks c.requires.reached c.requires.idle k (get_or c.loop-core.slots k x) known early
    (stands-still s (takes_time s c.requires.well_formed) clocks c.args.moment c.requires.clocks c.requires.reached c.requires.idle k c.loop-core.clocks c.loop-core.slots known c.loop-core.invariant x)

pub loop-core-preserved : goal.loop-core-preserved
loop-core-preserved c =
    let s = c.args.system.now in
    let clocks = c.args.clocks.now in
    let k = c.loop-core.core in
    let known : k < s.cores = rw c.parts.ensures.same at c.loop-core-test.true in
    let there : k < length c.loop-core.clocks = (let all = c.loop-core.auto.clocks in let enough = c.requires.clocks in omega arith) in
    let clock = c.index-clocks-core.is ∙ get_or_default_zero c.loop-core.clocks k c.index-clocks-core.result there in
    elim c.if-get.branch [
      | then-get w ↦ (let early : slice_index c.loop-core.clocks k < c.args.moment = omega arith in
          rw (w.clocks-is, w.slots-is)
          (slots-more s (takes_time s c.requires.well_formed) clocks c.args.moment c.requires.clocks c.requires.reached c.requires.idle k c.loop-core.clocks c.loop-core.slots known
          c.loop-core.invariant w.index-slots-core.result w.skip_slot.new.slot early w.skip_slot.ensures))
      | else-get w ↦ (let late : c.args.moment ≤ slice_index c.loop-core.clocks k = omega arith in
          rw (w.clocks-is, w.slots-is)
          (slots-same s (takes_time s c.requires.well_formed) clocks c.args.moment c.requires.clocks c.requires.reached c.requires.idle k c.loop-core.clocks c.loop-core.slots known
          c.loop-core.invariant late))
    ]
