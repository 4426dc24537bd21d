use Rattle.std.proofs.Common.{◌≡◌, ◌+◌, ◌<◌, ◌∷◌, length, drop, arith, sym, ap, ◌∙◌}
use Rattle.mcs_verdict.specs.declared.held.Held.{Held}
use Rattle.mcs_verdict.specs.Words.{heard_at, firsts_from}
use Rattle.mcs_verdict.specs.Takers.{due_of}
use Rattle.mcs_verdict.proofs.Lists.{next-row}
use Rattle.mcs_verdict.proofs.Words.{words_added}
use Rattle.mcs_verdict.proofs.Dues.{known-due, known-many}
use Rattle.mcs_verdict.proofs.watch.opened_words.Goals as goal

pub index-requires : goal.index-requires
index-requires c =
    omega (
      arith,
      c.loop-number-test.true,
      ap length c.as_slice-part-items.ensures,
      known-many (length c.args.parts.now.notes) c.args.parts.now.threads c.in_ok-dues.dues.items c.in_ok-dues.ensures,
    )

pub loop-number-preserved : goal.loop-number-preserved
loop-number-preserved c =
    let threads = c.args.parts.now.threads in
    let notes = c.args.parts.now.notes in
    let n = c.loop-number.number in
    let same = c.as_slice-part-items.ensures in
    let less : n < length notes = omega (arith, c.loop-number-test.true, ap length same) in
    let next : drop n notes ≡ c.part-item.result ∷ drop (n + 1) notes =
    sym (ap (drop n) same) ∙ next-row c.as_slice-part-items.result.now n c.part-item.result c.loop-number-test.true c.part-item.is
    ∙ ap (λ notes. c.part-item.result ∷ drop (n + 1) notes) same
    in
    let bits : c.heard_at.result ≡ heard_at n threads = c.heard_at.ensures ∙ ap (heard_at n) c.as_slice.ensures in
    let due : c.known.result ≡ due_of n threads =
    c.known.ensures ∙ known-due n n (length notes) threads c.in_ok-dues.dues.items c.index.result.now (omega arith) less c.in_ok-dues.ensures c.index.ensures
    in
    let new : Held = record { word = c.part-item.result.word; since = 0; bits = c.heard_at.result; due = c.known.result; given = 0 } in
    words_added n (n + 1) threads (drop n notes) (drop (n + 1) notes) c.part-item.result c.loop-number.words.items c.push.new.self.items (firsts_from 0 threads notes) new
    (omega arith) next c.in_ok-push.ensures.items (cc (bits, due)) c.loop-number.invariant
