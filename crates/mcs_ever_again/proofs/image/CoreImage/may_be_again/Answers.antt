use Rattle.std.proofs.Common.{◌≡◌, ◌<◌, true, length, sym, ap, ◌∙◌, arith}
use Rattle.std.proofs.lemmas.List.{get_or_default}
use Rattle.mcs_core.specs.Core.{Core, no_state}
use Rattle.mcs_core.specs.declared.standing.Thread.{Thread}
use Rattle.mcs_system.specs.declared.part.SystemParts.{SystemParts}
use Rattle.mcs_ever.specs.Later.{later_thread, later_threads}
use Rattle.mcs_ever_again.proofs.Rounds.{threads-many, threads-later-at}
use Rattle.mcs_ever_again.proofs.image.CoreImage.may_be_again.Goals as goal

pub returns-then-len-count : goal.returns-then-len-count
returns-then-len-count c = λ shift later.
    let threads : c.args.state.now.core.threads ≡ later_threads shift.threads shift.rounds 0 c.self.inside.threads.items =
    ap (λ (core : Core). core.threads) later ∙ ap (λ (core : Core). later_threads shift.threads shift.rounds 0 core.threads) (sym c.self.view_is) in
    let many = threads-many shift.threads shift.rounds c.self.inside.threads.items c.args.state.now.core.threads threads in
    let known = (c.requires.fits.sound c.requires.going).threads in
    let same = ap (λ (parts : SystemParts). length parts.threads) c.parts.ensures.same in
    grind (arith, many, known, same, c.len.ensures, c.len-count.ensures, c.if-len-count.true, c.self.inside.threads.ok)

pub returns-then-not-stands_alike : goal.returns-then-not-stands_alike
returns-then-not-stands_alike c = λ shift later.
    let i = c.loop-i.i in
    let before = c.self.inside.threads.items in
    let threads : c.args.state.now.core.threads ≡ later_threads shift.threads shift.rounds 0 before =
    ap (λ (core : Core). core.threads) later ∙ ap (λ (core : Core). later_threads shift.threads shift.rounds 0 core.threads) (sym c.self.view_is) in
    let within : i < length before = grind (arith, c.len.ensures, c.if-len-count.false, c.loop-i-test.true, c.self.inside.threads.ok) in
    let at : c.thread.result ≡ later_thread (shift.threads i) (shift.rounds i) c.index.result.now =
    c.thread.ensures
    ∙ threads-later-at shift.threads shift.rounds before c.args.state.now.core.threads threads i within
    ∙ ap (later_thread (shift.threads i) (shift.rounds i)) (get_or_default before i no_state c.index.result.now within ∙ sym c.index.ensures) in
    let alike : c.stands_alike.result ≡ true =
    c.stands_alike.ensures.1 (
      ap (λ (thread : Thread). thread.standing) at,
      ap (λ (thread : Thread). thread.place.item) at,
      ap (λ (thread : Thread). thread.place.left) at,
      ap (λ (thread : Thread). thread.place.word) at,
      ap (λ (thread : Thread). thread.place.priority) at,
    ) in
    cc
