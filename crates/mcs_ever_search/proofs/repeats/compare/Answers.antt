use Rattle.std.proofs.Common.{◌≡◌, ◌<◌, [], length, get_or, None, refl, sym, ◌∙◌, arith}
use Rattle.std.proofs.lemmas.List.{get_or_default, length-set}
use Rattle.mcs_ever_search.specs.Repeats.{IsToldOf}
use Rattle.mcs_ever_search.proofs.Telling.{told-set, not-some, none-from, stays-set, from-set}
use Rattle.mcs_ever_search.proofs.repeats.compare.Goals as goal

pub loop-i-init : goal.loop-i-init
loop-i-init c =
    record {
      many = c.requires;
      told = λ are. are;
      stays = λ i some. refl;
      from = λ i empty. none-from (λ repeats. repeats.from ≡ c.args.compared.now.kept) (get_or c.args.told.now i None) empty;
    }

pub loop-i-preserved : goal.loop-i-preserved
loop-i-preserved c =
    let s = c.args.compared.now.system in
    let h = c.args.compared.now.horizon in
    let groups = c.args.groups.now in
    let i = c.loop-i.i in
    let told = c.loop-i.told in
    let now = c.in_ok-now.now in
    let so_far = c.loop-i.invariant in
    let known : i < length groups = omega arith in
    let within : i < length told = omega (arith, known, so_far.many) in
    let here = c.index-told-i.result in
    let none : get_or told i None ≡ None = get_or_default told i None here within ∙ not-some (get_or told i here) (sym c.is_told.ensures ∙ c.if-is_told.false) in
    let tells : IsToldOf s h (get_or groups i []) now = c.in_ok-now.ensures.told in
    record {
      many = length-set told i now ∙ so_far.many;
      told = λ are. told-set s h groups told i now known tells (so_far.told are);
      stays = stays-set c.args.told.now told i now none so_far.stays;
      from = from-set c.args.told.now told i now none (λ repeats. repeats.from ≡ c.args.compared.now.kept) within c.in_ok-now.ensures.from so_far.from;
    }
