use Rattle.std.proofs.Common.{◌≡◌, ◌+◌, ◌*◌, ◌/◌, ◌<◌, ◌≤◌, ◌∙◌, arith, rules}
use Rattle.std.specs.Prelude.{slice_index}
use Rattle.std.proofs.lemmas.List.{get_or_default}
use Rattle.mcs_step.proofs.Groups.{grouped-set, soonest-new}
use Rattle.mcs_step.proofs.calendar.Calendar.lower.Goals as goal

pub invariant_of-self : goal.invariant_of-self
invariant_of-self c =
    let next = c.self.inside.next in
    let soonest = c.self.inside.soonest in
    let core = c.args.core in
    let group = core / 8 in
    let known : core < 64 = c.requires in
    let from : 8 * group ≤ core = omega arith in
    let below : core < 8 * group + 8 = omega arith in
    let few : group < 8 = omega arith in
    let at : c.index-self-core.result ≡ slice_index next core = c.index-self-core.is ∙ get_or_default next core c.index-self-core.result 0 (let n = c.self.invariant.next_of in omega arith) in
    let least : c.index-self-group.result ≡ slice_index soonest group = c.index-self-group.is ∙ get_or_default soonest group c.index-self-group.result 0 (let n = c.self.invariant.soonest_of in omega arith) in
    let before : c.args.moment < c.index-self-core.result = search rules in
    let first : c.args.moment < c.index-self-group.result = search rules in
    let sooner : c.args.moment < slice_index next core = omega (arith, at, before) in
    let less : c.args.moment < slice_index soonest group = omega (arith, least, first) in
    grouped-set next soonest c.self.invariant core c.args.moment group from below few c.args.moment
    (soonest-new next soonest c.self.invariant core c.args.moment group from below few sooner less)
