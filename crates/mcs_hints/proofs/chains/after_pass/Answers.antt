use Rattle.std.proofs.Common.{◌≡◌, length, drop, fold, ap, ◌∙◌}
use Rattle.std.proofs.lemmas.List.{map-id, take_at}
use Rattle.std.proofs.lemmas.Slice.Zip.{AllZip-map}
use Rattle.mcs_hints.specs.Carried.{with_script}
use Rattle.mcs_hints.proofs.chains.after_pass.Goals as goal

pub returns : goal.returns
returns c =
    let words = c.args.words.now.items in
    let copied : c.in_ok-after.after.items ≡ words = AllZip-map (λ x. x) words c.in_ok-after.after.items c.in_ok-after.ensures.cases.0 ∙ map-id words in
    let begins : c.as_mut_slice.result.now ≡ words = c.as_mut_slice.ensures.value ∙ copied in
    take_at c.carry_all_on.new.words (drop (length c.carry_all_on.new.words) c.in_ok-after.after.items) c.in_ok-after.after.len
    (c.carry_all_on.auto.words ∙ c.as_mut_slice.ensures.len)
    ∙ c.carry_all_on.ensures ∙ ap (λ words. fold with_script words c.as_slice.result.now) begins ∙ ap (fold with_script words) c.as_slice.ensures
