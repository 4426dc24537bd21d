use Rattle.std.proofs.Common.{◌≡◌, ℕ, ◌+◌, ◌<◌, ◌≤◌, Bool, false, ◌&&◌, List, length, get_or, Option, None, sym, ap, subst, ◌∙◌, arith}
use Rattle.std.specs.Prelude.{IfOk, nat_le}
use Rattle.std.specs.Arc.{arc_value}
use Rattle.mcs_system.specs.System.{System}
use Rattle.mcs_ever_told.specs.Progress.{Progress}
use Rattle.mcs_ever_told.specs.Outlook.{AreTold}
use Rattle.mcs_ever_told.specs.declared.outlook.told.Told.{Told}
use Rattle.mcs_ever_told.specs.declared.outlook.sets.Group.{Group}
use Rattle.mcs_ever_told.specs.stored.Looks.{AreToldSoFar, AreToldBelow}
use Rattle.mcs_ever_told.proofs.Keeping.{all-told, at-end, below-on, ok-maps}
use Rattle.mcs_ever_told.proofs.outlook.Outlook.close.Goals as goal

pub returns : goal.returns
returns c =
    let a = c.self.inside in
    let kept = c.self.invariant in
    let s = arc_value a.system in
    let going = kept.going c.if-self.false in
    let R : Progress → Type 0 = λ p. (nat_le p.clock p.horizon && p.left) ≡ false in
    let T : Progress → Type 0 = λ p. IfOk c.all_told.result (λ told. AreTold p.system p.allowed p.horizon told.items) in
    let over = subst R (sym c.self.view_is) c.requires in
    let in_time : a.search.clock ≤ a.horizon + 1 = omega (arith, c.clock-in_time.ensures.value, c.clock-in_time.ensures.in_time, going.horizon) in
    let M : List (Option Told) → Type 0 = λ told. (i : ℕ) → i < length c.as_slice-2.result.now → get_or told i None ≡ None → a.search.clock ≡ a.horizon + 1 in
    let many : length c.as_slice-2.result.now ≡ length a.told.items =
    ap (λ (groups : List Group). length groups) c.as_slice-2.ensures.value ∙ sym kept.many in
    let met = subst M (sym c.as_mut_slice.ensures.value)
    (λ i l none. at-end a.search.clock a.horizon a.told.items over in_time i (omega (arith, l, many)) none) in
    let S : System → Type 0 = λ x. AreToldSoFar x c.as_slice.result.now a.horizon c.as_slice-2.result.now c.as_mut_slice.result.now in
    let L : List Bool → Type 0 = λ x. AreToldSoFar s x a.horizon c.as_slice-2.result.now c.as_mut_slice.result.now in
    let G : List Group → Type 0 = λ x. AreToldSoFar s a.allowed.items a.horizon x c.as_mut_slice.result.now in
    let O : List (Option Told) → Type 0 = λ x. AreToldSoFar s a.allowed.items a.horizon a.groups.items x in
    let so = subst S (sym c.deref.ensures) (subst L (sym c.as_slice.ensures.value) (subst G (sym c.as_slice-2.ensures.value)
    (subst O (sym c.as_mut_slice.ensures.value) kept.told))) in
    subst T c.self.view_is
    (ok-maps (λ all. AreToldBelow c.deref.result.now c.as_slice.result.now a.horizon c.as_slice-2.result.now (length c.as_slice-2.result.now) all.items)
    (λ all. AreTold s a.allowed.items a.horizon all.items)
    (λ all below. all-told a.sets.items a.groups.items kept.groups s a.allowed.items a.horizon all.items kept.sets
    (below-on s c.deref.result.now a.allowed.items c.as_slice.result.now a.horizon a.groups.items c.as_slice-2.result.now all.items c.deref.ensures
    c.as_slice.ensures.value c.as_slice-2.ensures.value below)) c.all_told.result (c.all_told.ensures.told a.horizon met so))
