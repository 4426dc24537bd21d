use Rattle.std.proofs.Common.{◌≡◌, ◌≤◌, ◌*◌, length, sym, ◌∙◌, arith}
use Rattle.std.proofs.lemmas.Slice.Eq.{bytes_eq-Decides}
use Rattle.mcs_hints.specs.Chains.{carried_on}
use Rattle.mcs_hints.proofs.Settled.{settled}
use Rattle.mcs_hints.proofs.chains.words_of.Goals as goal

pub returns-then-eq : goal.returns-then-eq
returns-then-eq c =
    let parts = c.args.parts.now in
    let words = c.loop-pass.words.items in
    let same : c.in_ok-after.after.items ≡ words =
    sym c.as_slice.ensures.value ∙ (bytes_eq-Decides c.as_slice.result.now c.as_slice-in-loop-pass.result.now).0 (sym c.eq.ensures ∙ c.if-eq.true)
    ∙ c.as_slice-in-loop-pass.ensures.value
    in
    let still : carried_on parts words ≡ words = sym c.in_ok-after.ensures ∙ same in
    let within : c.loop-pass._pass ≤ 32 * length parts.notes = omega (arith, c.loop-pass-test.true, c.len-pass-end.ensures) in
    settled parts c.args.source.now c.loop-pass._pass (32 * length parts.notes) words within c.loop-pass.invariant still
