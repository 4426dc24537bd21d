use Rattle.std.proofs.Common.{◌≡◌, false, [], length, replicate, drop, refl, ap, ◌∙◌}
use Rattle.std.proofs.lemmas.List.{take_at}
use Rattle.mcs_hints.specs.Contexts.{is_bound}
use Rattle.mcs_hints.specs.stored.Marks.{bounds_of}
use Rattle.mcs_hints.proofs.Numbers.{same_for_all}
use Rattle.mcs_hints.proofs.contexts.bind_contexts.Goals as goal

pub returns : goal.returns
returns c =
    let n = length c.args.parts.now.contexts in
    let begins : c.as_mut_slice.result.now ≡ bounds_of n [] =
    c.as_mut_slice.ensures.value ∙ c.in_ok-bounds.ensures.items_if_clones_equal (λ y e. e) ∙ ap (λ n. replicate n false) c.len.ensures
    ∙ same_for_all (is_bound []) n false (λ k. refl)
    in
    take_at c.bind_threads.new.bounds (drop (length c.bind_threads.new.bounds) c.in_ok-bounds.bounds.items) c.in_ok-bounds.bounds.len
    (c.bind_threads.auto.bounds ∙ c.as_mut_slice.ensures.len)
    ∙ c.bind_threads.ensures n begins ∙ ap (bounds_of n) c.as_slice.ensures
