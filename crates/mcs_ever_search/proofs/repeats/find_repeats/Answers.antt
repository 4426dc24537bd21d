use Rattle.std.proofs.Common.{◌≡◌, ◌≤◌, ℕ, [], ◌++◌, List, Option, length, take, drop, sym, ap, subst, ◌∙◌, append-nil, arith}
use Rattle.std.specs.Arc.{arc_value}
use Rattle.std.proofs.lemmas.List.{take_all, drop_all}
use Rattle.mcs_system.specs.System.{System}
use Rattle.mcs_ever_search.specs.Compared.{Compared}
use Rattle.mcs_ever_search.specs.Repeats.{AreTold}
use Rattle.mcs_ever_search.specs.declared.repeats.Repeats.{Repeats}
use Rattle.mcs_ever_search.proofs.repeats.find_repeats.Goals as goal

pub loop-told-preserved : goal.loop-told-preserved
loop-told-preserved c =
    let on = c.in_ok-go_on.ensures.on in
    let so_far = c.loop-told.invariant in
    let groups = c.args.groups.now in
    let items = c.loop-told.told.items in
    let made = c.compare.new.told in
    let len = c.loop-told.told.len in
    let same : c.settle.new.self.system ≡ arc_value c.args.system = ap (λ (compared : Compared). compared.system) c.settle.ensures ∙ on.system ∙ so_far.system in
    let until : c.settle.new.self.horizon ≡ c.args.horizon = ap (λ (compared : Compared). compared.horizon) c.settle.ensures ∙ on.horizon ∙ so_far.horizon in
    let S : System → Type 0 = λ s. AreTold s c.args.horizon groups items in
    let H : ℕ → Type 0 = λ h. AreTold c.settle.new.self.system h groups items in
    let L : List (Option Repeats) → Type 0 = λ told. AreTold c.settle.new.self.system c.settle.new.self.horizon groups told in
    let after = c.compare.ensures.told (subst L (sym c.as_mut_slice.ensures.value) (subst H (sym until) (subst S (sym same) so_far.told))) in
    let T : System → Type 0 = λ s. AreTold s c.settle.new.self.horizon groups made in
    let I : ℕ → Type 0 = λ h. AreTold (arc_value c.args.system) h groups made in
    let here : AreTold (arc_value c.args.system) c.args.horizon groups made = subst I until (subst T same after) in
    let many : length made ≡ length items = here.many ∙ sym so_far.told.many in
    let none : drop (length made) items ≡ [] = drop_all (length made) items (omega (arith, many)) in
    let all : length made ≤ len = omega (arith, many, c.loop-told.told.ok.0) in
    let whole : made ≡ take len (made ++ drop (length made) items) =
    sym (ap (λ (more : List (Option Repeats)). take len (made ++ more)) none ∙ ap (λ (told : List (Option Repeats)). take len told) (append-nil made) ∙ take_all len made all) in
    let W : List (Option Repeats) → Type 0 = λ told. AreTold (arc_value c.args.system) c.args.horizon groups told in
    record { told = subst W whole here; system = same; horizon = until }
