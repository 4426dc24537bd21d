use Rattle.std.proofs.Common.{◌≡◌, List, length, Option, sym, ap, subst, ◌∙◌}
use Rattle.std.specs.Arc.{arc_value}
use Rattle.std.proofs.lemmas.List.{with_items_is}
use Rattle.mcs_system.specs.System.{System}
use Rattle.mcs_ever_told.specs.declared.outlook.told.Told.{Told}
use Rattle.mcs_ever_told.specs.declared.outlook.sets.Group.{Group}
use Rattle.mcs_ever_search.specs.Compared.{Compared}
use Rattle.mcs_ever_told.specs.stored.Looks.{AreClosed, IsLook}
use Rattle.mcs_ever_told.proofs.Keeping.{groups-closed, told-on}
use Rattle.mcs_ever_told.proofs.outlook.Outlook.step.Goals as goal

pub tell_now-requires-clause-closed : goal.tell_now-requires-clause-closed
tell_now-requires-clause-closed c =
    let a = c.self.inside in
    let P : System → Type 0 = λ s. AreClosed s c.as_slice-3.result.now in
    let Q : List Group → Type 0 = λ groups. AreClosed (arc_value a.system) groups in
    subst P (sym c.deref.ensures)
    (subst Q (sym c.as_slice-3.ensures.value) (groups-closed a.sets.items a.groups.items c.self.invariant.groups (arc_value a.system) c.self.invariant.sets))

pub invariant_of-self-in_err-tell_now : goal.invariant_of-self-in_err-tell_now
invariant_of-self-in_err-tell_now c =
    let a = c.self.inside in
    let kept = c.self.invariant in
    let items = with_items_is a.told c.tell_now.new.told (c.tell_now.auto.told ∙ c.as_mut_slice.ensures.len) in
    record {
      sets = kept.sets;
      groups = kept.groups;
      many =
          ap (λ (told : List (Option Told)). length told) items ∙ c.tell_now.auto.told
          ∙ ap (λ (told : List (Option Told)). length told) c.as_mut_slice.ensures.value ∙ kept.many;
      told =
          told-on (arc_value a.system) c.deref.result.now a.allowed.items c.as_slice-2.result.now a.horizon a.groups.items c.as_slice-3.result.now
          a.told.items c.as_mut_slice.result.now c.tell_now.new.told _ c.deref.ensures c.as_slice-2.ensures.value c.as_slice-3.ensures.value
          c.as_mut_slice.ensures.value items (c.in_err-tell_now.ensures a.horizon) kept.told;
      going = λ still. cc;
    }

pub invariant_of-self-2 : goal.invariant_of-self-2
invariant_of-self-2 c =
    let a = c.self.inside in
    let kept = c.self.invariant in
    let items = with_items_is a.told c.tell_now.new.told (c.tell_now.auto.told ∙ c.as_mut_slice.ensures.len) in
    let on = c.in_ok-go_on.ensures.on in
    let going = kept.going c.if-self.false in
    let P : Compared → Type 0 = λ search. IsLook (arc_value a.system) search × (search.horizon ≡ a.horizon) in
    let looks : IsLook (arc_value a.system) c.go_on-2.new.search × (c.go_on-2.new.search.horizon ≡ a.horizon) =
    subst P (sym c.go_on-2.ensures) (record { same = on.system ∙ going.look.same; going = on.going }, on.horizon ∙ going.horizon) in
    record {
      sets = kept.sets;
      groups = kept.groups;
      many =
          ap (λ (told : List (Option Told)). length told) items ∙ c.tell_now.auto.told
          ∙ ap (λ (told : List (Option Told)). length told) c.as_mut_slice.ensures.value ∙ kept.many;
      told =
          told-on (arc_value a.system) c.deref.result.now a.allowed.items c.as_slice-2.result.now a.horizon a.groups.items c.as_slice-3.result.now
          a.told.items c.as_mut_slice.result.now c.tell_now.new.told _ c.deref.ensures c.as_slice-2.ensures.value c.as_slice-3.ensures.value
          c.as_mut_slice.ensures.value items (c.in_ok-tell_now.ensures a.horizon) kept.told;
      going = λ still. record { look = looks.0; horizon = looks.1 };
    }
