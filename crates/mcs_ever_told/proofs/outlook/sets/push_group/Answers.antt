use Rattle.std.proofs.Common.{◌≡◌, Bool, true, cond, [], ◌∷◌, ◌++◌, sym, ap, ◌∙◌, rules}
use Rattle.mcs_ever_told.specs.Sets.{is_first}
use Rattle.mcs_ever_told.specs.stored.Groups.{group_of}
use Rattle.mcs_ever_told.specs.declared.outlook.sets.Group.{Group}
use Rattle.mcs_ever_told.proofs.outlook.sets.push_group.Goals as goal

pub returns : goal.returns
returns c =
    let sets = c.args.sets.now in
    let core = c.args.core in
    let yes : is_first sets core ≡ true = search rules in
    let before = c.args.groups.now.items in
    c.in_ok-push.ensures.items ∙ ap (λ (group : Group). before ++ group ∷ []) c.group_of.ensures
    ∙ ap (λ (b : Bool). before ++ cond b (group_of sets core ∷ []) []) (sym yes)
