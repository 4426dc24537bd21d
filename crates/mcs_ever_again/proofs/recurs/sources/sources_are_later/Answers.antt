use Rattle.std.proofs.Common.{◌≡◌, ◌<◌, ◌≤◌, List, length, get_or, ap, ◌∙◌, arith, rules}
use Rattle.mcs_system.specs.declared.part.Beat.{Beat}
use Rattle.mcs_system.specs.declared.part.SystemParts.{SystemParts}
use Rattle.mcs_ever_again.specs.Sources.{OwnGoOn}
use Rattle.mcs_ever_again.proofs.SourceDates.{go-on-more, go-on-all, all-later}
use Rattle.mcs_ever_again.proofs.recurs.sources.sources_are_later.Goals as goal

pub loop-beat-preserved : goal.loop-beat-preserved
loop-beat-preserved c =
    let s = c.args.system.now in
    let group = c.args.group.now in
    let i = c.loop-beat.beat-index in
    let beat = c.beat-item.result in
    let items : c.as_slice-beat-items.result.now ≡ s.beats = c.as_slice-beat-items.ensures ∙ ap (λ (parts : SystemParts). parts.beats) c.parts.ensures.same in
    let within : i < length s.beats = omega (arith, ap (λ (beats : List Beat). length beats) items, c.loop-beat-test.true) in
    let at : beat ≡ get_or s.beats i beat = c.beat-item.is ∙ ap (λ (beats : List Beat). get_or beats i beat) items in
    let own : OwnGoOn s group c.args.from c.args.by beat = c.own_go_on.ensures (search rules) in
    go-on-more s c.args.from c.args.by group i beat within at c.loop-beat.invariant own

pub returns : goal.returns
returns c = λ yes.
    let s = c.args.system.now in
    let items : c.as_slice-beat-items.result.now ≡ s.beats = c.as_slice-beat-items.ensures ∙ ap (λ (parts : SystemParts). parts.beats) c.parts.ensures.same in
    let all : length s.beats ≤ c.loop-beat.beat-index = omega (arith, ap (λ (beats : List Beat). length beats) items, c.loop-beat-test.false) in
    all-later s c.args.from c.args.by c.args.group.now (go-on-all s c.args.from c.args.by c.args.group.now c.loop-beat.beat-index all c.loop-beat.invariant)
