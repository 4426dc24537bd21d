use Rattle.std.proofs.Common.{◌≡◌, length, replicate, Option, None, List, refl, ap, subst, ◌∙◌, rules}
use Rattle.std.specs.Arc.{arc_value}
use Rattle.std.proofs.lemmas.List.{length-replicate}
use Rattle.mcs_system.specs.System.{System}
use Rattle.mcs_ever.specs.Closed.{AreLeastClosed}
use Rattle.mcs_ever_search.specs.Compared.{Compared}
use Rattle.mcs_ever_told.specs.declared.outlook.told.Told.{Told}
use Rattle.mcs_ever_told.specs.stored.Groups.{groups_of}
use Rattle.mcs_ever_told.proofs.Keeping.{none-told-yet}
use Rattle.mcs_ever_told.proofs.outlook.Outlook.new.Goals as goal

pub invariant_of-result : goal.invariant_of-result
invariant_of-result c =
    let s = arc_value c.args.system in
    let groups = c.in_ok-groups.groups.items in
    let told : c.in_ok-told.told.items ≡ replicate (length groups) None = search rules in
    let shared : arc_value c.in_ok-shared.shared ≡ s = search rules in
    record {
      sets = subst (λ (system : System). AreLeastClosed system c.in_ok-sets.sets.items) c.deref.ensures c.in_ok-sets.ensures;
      groups = c.in_ok-groups.ensures ∙ ap groups_of c.as_slice.ensures.value;
      many = ap (λ (told : List (Option Told)). length told) told ∙ length-replicate (length groups) None;
      told = none-told-yet s c.in_ok-allowed.allowed.items c.args.horizon groups c.in_ok-told.told.items told;
      going = λ whole.
          record {
            look = record {
              same = ap (λ (search : Compared). search.system) c.in_ok-search.ensures ∙ shared;
              going = ap (λ (search : Compared). search.failed) c.in_ok-search.ensures;
            };
            horizon = ap (λ (search : Compared). search.horizon) c.in_ok-search.ensures;
          };
    }

pub returns : goal.returns
returns c =
    record {
      of_system = refl;
      may_lose = search rules;
      up_to = refl;
      starts = ap (λ (search : Compared). search.clock) c.in_ok-search.ensures;
    }
