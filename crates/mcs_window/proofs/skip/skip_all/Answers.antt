use Rattle.std.proofs.Common.{◌≡◌, ℕ, ◌<◌, ◌≤◌, length, get_or, subst, ◌∙◌, arith}
use Rattle.std.specs.Prelude.{slice_index}
use Rattle.std.proofs.lemmas.Grind.{get_or_default_zero}
use Rattle.mcs_window.specs.stored.Cores.{AreSkipped}
use Rattle.mcs_stretch.proofs.Later.{takes_time}
use Rattle.mcs_window.proofs.Skips.{enough, set-all, skip-quiet, stands-now, skipped-more, skipped-same}
use Rattle.mcs_window.proofs.skip.skip_all.Goals as goal
use Rattle.mcs_window.proofs.skip.skip_all.Goals.{then-get, else-get}

pub skip-requires-clause-quiet : goal.skip-requires-clause-quiet
skip-requires-clause-quiet c =
    let s = c.args.system.now in
    let clocks = c.args.clocks.now in
    let k = c.loop-core.core in
    let known : k < s.cores = (let all = c.requires.clocks in let l = c.loop-core-test.true in omega arith) in
    let stands = stands-now s (takes_time s c.requires.well_formed) clocks c.args.moment (enough c.requires.clocks) c.requires.reached c.requires.idle c.args.states.now k c.loop-core.clocks c.loop-core.states known
    c.loop-core.invariant c.requires.states c.index-states-core.result in
    skip-quiet s (takes_time s c.requires.well_formed) clocks c.args.moment (enough c.requires.clocks) c.requires.reached c.requires.idle k (get_or c.loop-core.states k c.index-states-core.result) known stands

pub loop-core-preserved : goal.loop-core-preserved
loop-core-preserved c =
    let s = c.args.system.now in
    let clocks = c.args.clocks.now in
    let k = c.loop-core.core in
    let known : k < s.cores = (let all = c.requires.clocks in let l = c.loop-core-test.true in omega arith) in
    let clock = c.index-clocks-core.is ∙ get_or_default_zero c.loop-core.clocks k c.index-clocks-core.result (let all = c.loop-core.auto.clocks in let l = c.loop-core-test.true in omega arith) in
    elim c.if-get.branch [
      | then-get w ↦ (let early : slice_index c.loop-core.clocks k < c.args.moment = omega arith in
          rw (w.clocks-is, w.states-is)
          (skipped-more s (takes_time s c.requires.well_formed) clocks c.args.moment (enough c.requires.clocks) c.requires.reached c.requires.idle c.args.states.now k c.loop-core.clocks c.loop-core.states known
          c.loop-core.invariant c.requires.states w.index-states-core.result w.skip.new.self early w.skip.ensures.state w.skip.ensures.fits))
      | else-get w ↦ (let late : c.args.moment ≤ slice_index c.loop-core.clocks k = omega arith in
          rw (w.clocks-is, w.states-is)
          (skipped-same s (takes_time s c.requires.well_formed) clocks c.args.moment (enough c.requires.clocks) c.requires.reached c.requires.idle c.args.states.now k c.loop-core.clocks c.loop-core.states known
          c.loop-core.invariant c.requires.states late))
    ]

pub returns-clause-clocks : goal.returns-clause-clocks
returns-clause-clocks c =
    let P : ℕ → Type 0 = λ many. AreSkipped c.args.system.now c.args.clocks.now c.args.states.now c.args.moment many c.loop-core.clocks c.loop-core.states in
    let all : c.loop-core.core ≡ length c.args.clocks.now = (let past = c.loop-core-test.false in let end = c.loop-core.auto.core-end in omega arith) in
    set-all c.args.clocks.now c.loop-core.clocks c.args.moment (subst P all c.loop-core.invariant).clocks_are
