use Rattle.std.proofs.Common.{◌∙◌, ◌++◌, ◌∷◌, [], List, cond, sym, ap}
use Rattle.mcs_ever_told.specs.Sets.{is_first}
use Rattle.mcs_ever_told.specs.stored.Groups.{group_of}
use Rattle.mcs_ever_told.specs.declared.outlook.sets.Group.{Group}
use Rattle.mcs_ever_told.proofs.Numbers.{kept-next}
use Rattle.mcs_ever_told.proofs.outlook.sets.groups_of.Goals as goal

pub loop-core-preserved : goal.loop-core-preserved
loop-core-preserved c =
    let sets = c.args.sets.now in
    let core = c.loop-core.core in
    c.in_ok-push_group.ensures
    ∙ ap (λ (groups : List Group). groups ++ cond (is_first sets core) (group_of sets core ∷ []) []) c.loop-core.invariant
    ∙ sym (kept-next (is_first sets) (group_of sets) core)
