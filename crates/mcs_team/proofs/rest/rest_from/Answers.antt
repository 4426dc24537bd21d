use Rattle.std.proofs.Common.{◌≡◌, ◌≤◌, ◌+◌, ◌∙◌, ap, arith, rules, subst}
use Rattle.std.specs.Prelude.{slice_index}
use Rattle.std.proofs.lemmas.List.{get_or-replicate}
use Rattle.mcs_system.specs.System.{System}
use Rattle.mcs_system.specs.WellFormed.{IsWellFormed}
use Rattle.mcs_system.proofs.Linked.{takes_time}
use Rattle.mcs_team.specs.Flow.{Waits}
use Rattle.mcs_team.proofs.Resting.{rest-given}
use Rattle.mcs_team.proofs.Rounds.{stops-at}
use Rattle.mcs_team.proofs.rest.rest_from.Goals as goal

pub returns-in_default-clause-fault : goal.returns-in_default-clause-fault
returns-in_default-clause-fault g c =
    let well : IsWellFormed g.B.Run.system = search rules in
    let l : c.args.from ≤ g.B.Run.horizon + 1 = (let e = c.requires.run.1 in let k = c.requires.in_range.1 in omega arith) in
    stops-at g.W.Part.Out.Sink.takes g.B.Run.system g.B.Run.horizon (takes_time g.B.Run.system well) c.args.from c.args.out.now l

pub returns-in_default-new-clause-fault : goal.returns-in_default-new-clause-fault
returns-in_default-new-clause-fault g c =
    let well : IsWellFormed g.B.Run.system = search rules in
    let l : c.args.from ≤ g.B.Run.horizon + 1 = (let e = c.requires.run.1 in let k = c.requires.in_range.1 in omega arith) in
    stops-at g.W.Part.Out.Sink.takes g.B.Run.system g.B.Run.horizon (takes_time g.B.Run.system well) c.args.from c.args.out.now l

pub add_rests-requires-clause-from : goal.add_rests-requires-clause-from
add_rests-requires-clause-from g c =
    let same = c.deref-2.ensures ∙ c.requires.run.0 in (
      λ core k.
          ap (λ xs. slice_index xs core) c.in-Ok-new.ensures.pasts
          ∙ get_or-replicate c.deref-2.result.now.cores core c.args.from 0 (let e : c.deref-2.result.now.cores ≡ g.B.Run.system.cores = ap (λ (s : System). s.cores) same in omega arith),
      let e = c.requires.run.1 in let l = c.requires.in_range.1 in omega arith,
    )

pub returns-in_default-add_rests-clause-fault : goal.returns-in_default-add_rests-clause-fault
returns-in_default-add_rests-clause-fault g c =
    let well : IsWellFormed g.B.Run.system = search rules in
    let l : c.args.from ≤ g.B.Run.horizon + 1 = (let e = c.requires.run.1 in let k = c.requires.in_range.1 in omega arith) in
    stops-at g.W.Part.Out.Sink.takes g.B.Run.system g.B.Run.horizon (takes_time g.B.Run.system well) c.args.from c.args.out.now l

pub pour-requires-clause-waits : goal.pour-requires-clause-waits
pour-requires-clause-waits g c =
    let flow = c.in-Ok-new.flow in
    let holds = g.W.Part.Part.holds in
    c.in-Ok-add_rests.ensures.waits c.args.out.now c.requires.fits
    (subst (λ h. Waits holds g.B.Run.system h flow.reached flow.pasts.items flow.merger c.args.out.now) c.requires.run.1
    (subst (λ s. Waits holds s c.args.plan.now.horizon flow.reached flow.pasts.items flow.merger c.args.out.now) (c.deref-2.ensures ∙ c.requires.run.0)
    (c.in-Ok-new.ensures.waits c.args.out.now c.requires.fits)))

pub returns-clause-given : goal.returns-clause-given
returns-clause-given g c =
    rest-given g.W.Part.Out.Sink.takes g.B.Run.system g.B.Run.horizon c.args.from c.add_rests.new.flow.reached c.pour.new.self.reached c.add_rests.new.flow.end c.add_rests.new.flow.pasts.items
    c.args.out.now c.pour.new.out (c.add_rests.ensures.same.0 ∙ c.in-Ok-new.ensures.first) c.in-Ok-pour.ensures.reached
    (c.add_rests.ensures.same.1 ∙ c.in-Ok-new.ensures.end ∙ ap (λ n. n + 1) c.requires.run.1) c.in-Ok-add_rests.ensures.pasts c.in-Ok-pour.ensures.given
