use Rattle.std.proofs.Common.{◌≡◌, ℕ, ◌++◌, ◌∷◌, [], List, sym, ap, ◌∙◌, arith}
use Rattle.std.specs.Prelude.{map}
use Rattle.std.specs.List.{range_with_len}
use Rattle.std.proofs.lemmas.List.FromFn.{map-range_with_len_more}
use Rattle.mcs_system.specs.System.{System}
use Rattle.mcs_core.specs.Core.{Core}
use Rattle.mcs_core.specs.Clock.{core_shown, world}
use Rattle.mcs_ever_search.proofs.snapshot.images.Goals as goal

pub image-requires-clause-known : goal.image-requires-clause-known
image-requires-clause-known c =
    let many : c.parts.result.now.cores ≡ c.args.system.now.cores = ap (λ (s : System). s.cores) c.parts.ensures.same in
    omega arith

pub loop-core-preserved : goal.loop-core-preserved
loop-core-preserved c =
    let s = c.args.system.now in
    let k = c.loop-core.core in
    let shown : ℕ → Core = core_shown s (world s c.args.lockstep.now.clock) in
    c.in_ok-push.ensures.items
    ∙ ap (λ (images : List Core). images ++ c.in_ok-image.field-0 ∷ []) c.loop-core.invariant
    ∙ ap (λ (image : Core). map shown (range_with_len 0 k) ++ image ∷ []) c.in_ok-image.ensures
    ∙ sym (map-range_with_len_more shown 0 k k (omega arith))

pub returns : goal.returns
returns c =
    let s = c.args.system.now in
    let shown : ℕ → Core = core_shown s (world s c.args.lockstep.now.clock) in
    let many : c.parts.result.now.cores ≡ s.cores = ap (λ (s : System). s.cores) c.parts.ensures.same in
    let all : c.loop-core.core ≡ s.cores = (let l = c.loop-core-test.false in let end = c.loop-core.auto.core-end in omega arith) in
    c.loop-core.invariant ∙ ap (λ (n : ℕ). map shown (range_with_len 0 n)) all
