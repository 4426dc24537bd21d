use Rattle.std.proofs.Common.{◌≡◌, length, map, replicate, drop, refl, ap, ◌∙◌}
use Rattle.std.proofs.lemmas.List.{take_at}
use Rattle.mcs_hints.specs.Numbers.{numbers}
use Rattle.mcs_hints.specs.Handlers.{taken_from}
use Rattle.mcs_hints.proofs.Numbers.{same_for_all}
use Rattle.mcs_hints.proofs.handlers.taken_badges.Goals as goal

pub returns : goal.returns
returns c =
    let n = length c.args.parts.now.notes in
    let begins : c.as_mut_slice.result.now ≡ map (λ note. 0) (numbers n) =
    c.as_mut_slice.ensures.value ∙ c.in_ok-taken.ensures.items_if_clones_equal (λ y e. e) ∙ ap (λ n. replicate n 0) c.len.ensures
    ∙ same_for_all (λ note. 0) n 0 (λ k. refl)
    in
    take_at c.take_threads.new.taken (drop (length c.take_threads.new.taken) c.in_ok-taken.taken.items) c.in_ok-taken.taken.len
    (c.take_threads.auto.taken ∙ c.as_mut_slice.ensures.len)
    ∙ c.take_threads.ensures n begins ∙ ap (λ threads. map (taken_from threads) (numbers n)) c.as_slice.ensures
