use Rattle.std.proofs.Common.{◌≡◌, ◌∙◌, ◌+◌, ◌-◌, ◌++◌, ◌∷◌, [], List, ℕ, take, length, ap, refl, arith, rules}
use borrow.Rule.Slice.PartMut.{put_mid}
use Rattle.mcs_text.proofs.Behind.{take_part, take_short}
use Rattle.mcs_text.proofs.bytes.write_short.Goals as goal

pub returns-clause-written : goal.returns-clause-written
returns-clause-written c =
    let word = c.args.word.now in
    let blank : List ℕ = 32 ∷ 32 ∷ 32 ∷ 32 ∷ 32 ∷ 32 ∷ 32 ∷ 32 ∷ [] in
    let copied : c.copy_from_slice.new.self ≡ word = search rules in
    let block : c.copy_from_slice-2.new.self ≡ put_mid 1 (1 + length word - 1) blank c.copy_from_slice.new.self = search rules in
    let short : take (1 + length word) c.copy_from_slice-2.new.self ≡ 32 ∷ word =
    ap (λ xs. take (1 + length word) xs) (block ∙ ap (λ w. put_mid 1 (1 + length word - 1) blank w) copied)
    ∙ take_short blank word _ refl (omega arith)
    in
    let eight : length c.copy_from_slice-2.new.self ≡ 8 = search rules in
    take_part c.args.bytes.now c.copy_from_slice-2.new.self c.args.at _ (1 + length word) (omega arith) (omega arith)
    ∙ ap (λ w. take c.args.at c.args.bytes.now ++ w) short
