use Rattle.std.proofs.Common.{◌≡◌, length, map, replicate, drop, refl, ap, ◌∙◌}
use Rattle.std.proofs.lemmas.List.{take_at}
use Rattle.std.proofs.lemmas.Simd.{splat_is_map}
use Rattle.mcs_hints.specs.Carried.{posted}
use Rattle.mcs_hints.proofs.chains.first_words.Goals as goal

pub returns : goal.returns
returns c =
    let notes = c.args.parts.now.notes in
    let begins : c.as_mut_slice.result.now ≡ map (λ _. 0) notes =
    c.as_mut_slice.ensures.value ∙ c.in_ok-words.ensures.items_if_clones_equal (λ y e. e) ∙ ap (λ n. replicate n 0) c.len.ensures
    ∙ splat_is_map notes (length notes) 0 refl
    in
    take_at c.post.new.words (drop (length c.post.new.words) c.in_ok-words.words.items) c.in_ok-words.words.len
    (c.post.auto.words ∙ c.as_mut_slice.ensures.len)
    ∙ c.post.ensures ∙ ap (posted c.args.source.now.note c.args.source.now.badge) begins
